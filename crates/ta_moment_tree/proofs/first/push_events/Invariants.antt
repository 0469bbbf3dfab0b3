use Rattle.ta_moment_tree.proofs.Common.{flat_map, range_with_len, rows_of_event, AddsForms}
use Rattle.ta_moment_tree.proofs.first.push_events.Given as goal

abbrev pub invariant-loop-event : goal.invariant-loop-event
invariant-loop-event l = AddsForms (flat_map (rows_of_event l.plan.task.automaton.now l.plan.task.pattern.now) (range_with_len 0 l.event)) l.fn.rows.items
    l.rows.items
