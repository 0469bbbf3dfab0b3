use Rattle.ta_words.proofs.Common.{◌≡◌, inl, inr, ℕ, ◌+◌, ◌<◌, List, refl, Bool, length, reverse, slice_get, Some, arith, sym, ap, ◌∙◌, subst, slice_get_read}
use Rattle.ta_words.proofs.Common.{slice_get_past, Told, none_told, not_told, one_told, Rule, may_fire, cases_lt}
use Rattle.ta_words.proofs.following.allowed_after.Goals as goal
use Rattle.ta_words.proofs.following.allowed_after.Goals.{then-may_fire, else-may_fire}

pub loop-number-init : goal.loop-number-init
loop-number-init c = none_told (λ r. may_fire c.args.task.automaton.now c.args.task.pattern.now c.args.start_mask (reverse c.args.elements.now)
    (slice_get c.args.task.automaton.now.rules r))

pub loop-number-preserved : goal.loop-number-preserved
loop-number-preserved c =
    let a = c.args.task.automaton.now in
    let p = c.args.task.pattern.now in
    let start = c.args.start_mask in
    let test : ℕ → Bool = λ r. may_fire a p start (reverse c.args.elements.now) (slice_get a.rules r) in
    let number = c.loop-number.number in
    let rule = c.rule-item.result in
    let at : slice_get a.rules number ≡ Some rule = subst (λ (rs : List Rule). slice_get rs number ≡ Some rule) c.as_slice-rule-items.ensures
    (slice_get_read c.as_slice-rule-items.result.now (length c.as_slice-rule-items.result.now) number rule refl c.loop-number-test.true c.rule-item.is) in
    let told : c.may_fire.result ≡ test number = c.may_fire.ensures start (reverse c.args.elements.now) c.of-seen.ensures
    ∙ ap (may_fire a p start (reverse c.args.elements.now)) (sym at) in
    let within : number < 128 = (let limit = c.args.task.narrow.rules in let below = c.loop-number-test.true in
    let same = ap length c.as_slice-rule-items.ensures in omega arith) in
    elim c.if-may_fire.branch [
      | then-may_fire w ↦ one_told test 128 c.loop-number.allowed c.if-may_fire.allowed number c.loop-number.invariant within (sym told ∙ w.if-may_fire.true)
          w.allowed-is
      | else-may_fire w ↦ subst (λ m. Told test m (number + 1)) (sym w.allowed-is)
          (not_told test c.loop-number.allowed number c.loop-number.invariant (sym told ∙ w.if-may_fire.false))
    ]

pub returns : goal.returns
returns c = λ r.
    let a = c.args.task.automaton.now in
    let p = c.args.task.pattern.now in
    let all : length a.rules ≡ c.loop-number.number =
    (let same = ap length c.as_slice-rule-items.ensures in let low = c.loop-number-test.false in let high = c.loop-number.auto.number-end in omega arith) in
    elim (cases_lt r (length a.rules)) [
      | inl below ↦ c.loop-number.invariant.below r (omega arith)
      | inr above ↦ c.loop-number.invariant.above r (omega arith)
          ∙ sym (ap (may_fire a p c.args.start_mask (reverse c.args.elements.now)) (slice_get_past a.rules r above))
    ]
