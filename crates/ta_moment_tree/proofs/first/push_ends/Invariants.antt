use Rattle.ta_moment_tree.proofs.Common.{filter, flat_map, range_with_len, below, end_vector, event_vector, is_beside, unknowns_at_first, AddsForms}
use Rattle.ta_moment_tree.proofs.first.push_ends.Given as goal

abbrev pub invariant-loop-event : goal.invariant-loop-event
invariant-loop-event l =
    AddsForms
    (flat_map (λ e. below l.plan.task.automaton.now l.plan.task.pattern.now (unknowns_at_first l.plan.task.automaton.now l.plan.task.pattern.now)
    (event_vector l.plan.task.automaton.now l.plan.task.pattern.now e) (end_vector l.plan.task.automaton.now l.plan.task.pattern.now l.candidate))
    (filter (is_beside l.plan.task.pattern.now l.candidate) (range_with_len 0 l.event))) l.fn.rows.items l.rows.items
