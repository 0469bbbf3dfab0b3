use Rattle.ta_moment_tree.proofs.Common.{◌≡◌, slice_get, filter, flat_map, range_with_len, has_guard, guards, quiet_at, all_forms, vector_of}
use Rattle.ta_moment_tree.proofs.ends.rows_at_end.Given as goal

abbrev pub invariant-loop-guard : goal.invariant-loop-guard
invariant-loop-guard l =
    all_forms l.rows.items
    ≡ flat_map (λ g. quiet_at l.plan.task.automaton.now l.plan.task.pattern.now l.silent (vector_of l.end) (slice_get (guards l.plan.task.automaton.now) g))
    (filter (λ g. has_guard l.plan.task.automaton.now g (slice_get l.plan.task.automaton.now.rules l.rule)) (range_with_len 0 l.guard))
