use Rattle.ta_moment_tree.proofs.Common.{ℕ, Bool, ◌+◌, ◌<◌, ◌^◌, length, slice_get, arith, ap, sym, ◌∙◌, count_few, count_none, count_one, is_moving}
use Rattle.ta_moment_tree.proofs.count.moving_count.Goals.{then-is_moving, else-is_moving}
use Rattle.ta_moment_tree.proofs.count.moving_count.Goals as goal

pub overflow_add-count : goal.overflow_add-count
overflow_add-count c =
    let a = c.args.automaton.now in
    let few = count_few (λ r. is_moving c.args.pattern.now (slice_get a.rules r)) c.loop-rule.rule in
    let below = c.loop-rule-test.true in
    let is = c.loop-rule.invariant in
    let small : c.loop-rule.count + 1 < 2 ^ 32 = omega (arith, ap length c.as_slice-rule-end.ensures, a.shape.limits.rules_limit) in
    record { fits = small }

pub loop-rule-preserved : goal.loop-rule-preserved
loop-rule-preserved c =
    let r = c.loop-rule.rule in
    let test : ℕ → Bool = λ k. is_moving c.args.pattern.now (slice_get c.args.automaton.now.rules k) in
    elim c.if-is_moving.branch [
      | then-is_moving w ↦ w.count-is ∙ ap (λ n. n + 1) c.loop-rule.invariant ∙ sym (count_one test r (sym c.is_moving.ensures ∙ w.if-is_moving.true))
      | else-is_moving w ↦ w.count-is ∙ c.loop-rule.invariant ∙ sym (count_none test r (sym c.is_moving.ensures ∙ w.if-is_moving.false))
    ]

pub returns-clause-few : goal.returns-clause-few
returns-clause-few c =
    let a = c.args.automaton.now in
    let few = count_few (λ r. is_moving c.args.pattern.now (slice_get a.rules r)) c.loop-rule.rule in
    let high = c.loop-rule.auto.rule-end in
    let is = c.loop-rule.invariant in
    omega (arith, ap length c.as_slice-rule-end.ensures, a.shape.limits.rules_limit)
