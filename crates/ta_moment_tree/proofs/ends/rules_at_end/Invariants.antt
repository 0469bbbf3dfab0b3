use Rattle.ta_moment_tree.proofs.Common.{◌≡◌, map, slice_get, filter, range_with_len, may_be_stuck, rule_at_end, vector_of, rule_of}
use Rattle.ta_moment_tree.proofs.ends.rules_at_end.Given as goal

abbrev pub invariant-loop-rule : goal.invariant-loop-rule
invariant-loop-rule l =
    map rule_of l.rules.items
    ≡ map (rule_at_end l.plan.task.automaton.now l.plan.task.pattern.now l.silent (vector_of l.end))
    (filter (λ r. may_be_stuck l.plan.task.pattern.now (slice_get l.plan.task.automaton.now.rules r)) (range_with_len 0 l.rule))
