use Rattle.ta_moment_tree.proofs.Common.{◌≡◌, Some, map, not, filter, range_with_len, has_later}
use Rattle.ta_moment_tree.proofs.asking.last_events.Given as goal

abbrev pub invariant-loop-event : goal.invariant-loop-event
invariant-loop-event l = l.events.items ≡ map Some (filter (λ e. not (has_later l.pattern e)) (range_with_len 0 l.event))
