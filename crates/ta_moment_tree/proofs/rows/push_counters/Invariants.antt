use Rattle.ta_moment_tree.proofs.Common.{map, not, filter, range_with_len, has_bit, location_place, place_form, vector_of, AddsForms}
use Rattle.ta_moment_tree.proofs.rows.push_counters.Given as goal

abbrev pub invariant-loop-location : goal.invariant-loop-location
invariant-loop-location l =
    AddsForms (map (λ k. place_form l.plan.task.automaton.now l.plan.task.pattern.now (vector_of l.vector) (location_place l.plan.task.automaton.now k))
    (filter (λ k. not (has_bit l.plan.task.pattern.now.empty k)) (range_with_len 0 l.location)))
    l.fn.rows.items l.rows.items
