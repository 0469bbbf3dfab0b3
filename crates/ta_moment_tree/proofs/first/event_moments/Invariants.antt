use Rattle.ta_moment_tree.proofs.Common.{◌≡◌, map, range_with_len, Point, event_vector, moments_of}
use Rattle.ta_moment_tree.proofs.first.event_moments.Given as goal

abbrev pub invariant-loop-event : goal.invariant-loop-event
invariant-loop-event l = moments_of l.moments.items ≡ map (λ e. Point (event_vector l.plan.task.automaton.now l.plan.task.pattern.now e))
    (range_with_len 0 l.event)
