use Rattle.ta_moment_tree.proofs.Common.{filter, flat_map, slice_get, range_with_len, comes_after, below, event_vector, unknowns_at_first, AddsForms}
use Rattle.ta_moment_tree.proofs.first.push_earlier.Given as goal

abbrev pub invariant-loop-other : goal.invariant-loop-other
invariant-loop-other l =
    AddsForms
    (flat_map (λ f. below l.plan.task.automaton.now l.plan.task.pattern.now (unknowns_at_first l.plan.task.automaton.now l.plan.task.pattern.now)
    (event_vector l.plan.task.automaton.now l.plan.task.pattern.now f) (event_vector l.plan.task.automaton.now l.plan.task.pattern.now l.event))
    (filter (comes_after (slice_get l.plan.task.pattern.now.events l.event)) (range_with_len 0 l.other))) l.fn.rows.items l.rows.items
