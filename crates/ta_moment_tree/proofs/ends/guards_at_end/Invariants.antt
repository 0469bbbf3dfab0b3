use Rattle.ta_moment_tree.proofs.Common.{◌≡◌, map, range_with_len, guard_at_end, vector_of, guard_of}
use Rattle.ta_moment_tree.proofs.ends.guards_at_end.Given as goal

abbrev pub invariant-loop-guard : goal.invariant-loop-guard
invariant-loop-guard l = map guard_of l.guards.items ≡ map (guard_at_end l.plan.task.automaton.now l.plan.task.pattern.now (vector_of l.end))
    (range_with_len 0 l.guard)
