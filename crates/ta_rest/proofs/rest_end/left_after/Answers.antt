use Rattle.ta_rest.proofs.ClaimCommon.{◌≡◌, ◌||◌, ℕ, length, reverse, slice_get, Option, Some, Bool, List, arith, sym, ap, ◌∙◌, refl, subst, has_none, Rule}
use Rattle.ta_rest.proofs.ClaimCommon.{leads_out, any_below, slice_get_read}
use Rattle.ta_base.proofs.Bits.{any_below-next, any_below-none}
use Rattle.ta_rest.proofs.rest_end.left_after.Goals as goal

pub loop-rule-init : goal.loop-rule-init
loop-rule-init c = λ m. has_none m ∙ sym
    (any_below-none (λ r. leads_out c.args.automaton.now c.args.start_mask (reverse c.args.elements.now) m (slice_get c.args.automaton.now.rules r)))

pub loop-rule-preserved : goal.loop-rule-preserved
loop-rule-preserved c = λ m.
    let a = c.args.automaton.now in
    let past = reverse c.args.elements.now in
    let i = c.loop-rule.rule-index in
    let rule = c.rule-item.result in
    let items = c.as_slice-rule-items.result.now in
    let out : Option Rule → Bool = leads_out a c.args.start_mask past m in
    let at : slice_get a.rules i ≡ Some rule = subst (λ (rs : List Rule). slice_get rs i ≡ Some rule) c.as_slice-rule-items.ensures
    (slice_get_read items (length items) i rule refl c.loop-rule-test.true c.rule-item.is) in
    c.with_left-left.ensures m
    ∙ ap (λ (b : Bool). out (Some rule) || b) (c.loop-rule.invariant m)
    ∙ sym (any_below-next i (λ r. out (slice_get a.rules r)) ∙ ap (λ (o : Option Rule). out o || any_below i (λ r. out (slice_get a.rules r))) at)

pub returns : goal.returns
returns c = λ m.
    let a = c.args.automaton.now in
    let all : c.loop-rule.rule-index ≡ length a.rules =
    (let same = ap length c.as_slice-rule-items.ensures in let low = c.loop-rule-test.false in let high = c.loop-rule.auto.rule-index-end in omega arith) in
    c.loop-rule.invariant m ∙ ap (λ (n : ℕ). any_below n (λ r. leads_out a c.args.start_mask (reverse c.args.elements.now) m (slice_get a.rules r))) all
