use Rattle.ta_scope.proofs.Common.{◌≡◌, ◌++◌, ◌∷◌, [], pos, get_or, cond, eqb, ◌&&◌, ℕ, ℤ, List, arith, refl, sym, ap, ◌∙◌, append-nil, append_assoc, length}
use Rattle.ta_scope.proofs.Common.{int_lt, ints, w128, to_z, of_z, read_same, Rule, steps_from}
use Rattle.ta_scope.proofs.Listing.{steps_more}
use Rattle.ta_scope.proofs.arrange.push_steps.Goals as goal

pub loop-number-init : goal.loop-number-init
loop-number-init c = sym (append-nil c.args.steps.now.items)

pub loop-number-preserved : goal.loop-number-preserved
loop-number-preserved c =
    let a = c.args.automaton.now in
    let named = read_same a.rules c.as_slice-rule-items.result.now c.loop-number.number c.rule-item.result c.as_slice-rule-items.ensures c.loop-number-test.true
    c.rule-item.is in
    let z = to_z w128 (of_z w128 (get_or c.args.counts.now c.loop-number.number (pos 0))) in
    let next = cond (eqb c.rule-item.result.from c.args.location && int_lt (pos 0) z) ((c.loop-number.number, z) ∷ []) [] in
    let so_far = steps_from a c.args.counts.now c.args.location c.loop-number.number in
    let more = steps_more a c.args.counts.now c.args.location c.loop-number.number c.rule-item.result z named (omega (arith, ints)) in
    c.in_ok-push_step.ensures refl ∙ ap (λ (xs : List (ℕ × ℤ)). xs ++ next) c.loop-number.invariant ∙ append_assoc c.args.steps.now.items so_far next
    ∙ ap (λ (xs : List (ℕ × ℤ)). c.args.steps.now.items ++ xs) (sym more)

pub returns : goal.returns
returns c = λ ok.
    let a = c.args.automaton.now in
    let same = ap (λ (xs : List Rule). length xs) c.as_slice-rule-items.ensures in
    let all : c.loop-number.number ≡ length a.rules = omega (arith, c.loop-number.auto.number-end) in
    c.loop-number.invariant ∙ ap (λ n. c.args.steps.now.items ++ steps_from a c.args.counts.now c.args.location n) all
