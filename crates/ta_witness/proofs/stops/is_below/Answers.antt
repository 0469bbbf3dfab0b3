use Rattle.ta_witness.proofs.Common.{rules, FitsSigned, w128, to_z-of_z, int_lt, ◌||◌, any_below-at, any_below-next, any_below-none, any_below, count_at}
use Rattle.ta_moments.proofs.Common.{ℕ, Bool, ◌<◌, ◌≡◌, length, arith, sym, ap, ◌∙◌, true, false}
use Rattle.ta_witness.proofs.stops.is_below.Goals as goal

pub loop-rule-init : goal.loop-rule-init
loop-rule-init c = any_below-none _

pub returns-then-number_at : goal.returns-then-number_at
returns-then-number_at c =
    let r = c.loop-rule.rule in
    let x = c.args.before.now in
    let y = c.args.after.now in
    let less : r < length y = (let b = c.loop-rule-test.true in omega arith) in
    let test : int_lt (count_at x r) (count_at y r) ≡ true = (
    let one : FitsSigned w128 c.number_at.result = search rules in
    let two : FitsSigned w128 c.number_at-in-loop-rule.result = search rules in
    let t = simp to_z-of_z at c.if-number_at.true in
    ap (λ z. int_lt z (count_at y r)) (sym c.number_at.ensures) ∙ ap (int_lt c.number_at.result) (sym c.number_at-in-loop-rule.ensures) ∙ t) in
    sym (any_below-at (length y) (λ k. int_lt (count_at x k) (count_at y k)) r less test)

pub loop-rule-preserved : goal.loop-rule-preserved
loop-rule-preserved c =
    let r = c.loop-rule.rule in
    let x = c.args.before.now in
    let y = c.args.after.now in
    let test : ℕ → Bool = λ k. int_lt (count_at x k) (count_at y k) in
    let no : test r ≡ false = (
    let one : FitsSigned w128 c.number_at.result = search rules in
    let two : FitsSigned w128 c.number_at-in-loop-rule.result = search rules in
    let t = simp to_z-of_z at c.if-number_at.false in
    ap (λ z. int_lt z (count_at y r)) (sym c.number_at.ensures) ∙ ap (int_lt c.number_at.result) (sym c.number_at-in-loop-rule.ensures) ∙ t) in
    any_below-next r test ∙ ap (λ b. b || any_below r test) no ∙ c.loop-rule.invariant
