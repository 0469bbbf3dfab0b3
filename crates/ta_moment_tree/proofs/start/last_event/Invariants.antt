use Rattle.ta_moment_tree.proofs.Common.{◌≡◌, ◌≤◌, length, not, filter, range_with_len, has_later}
use Rattle.ta_moment_tree.proofs.start.last_event.Given as goal

abbrev pub invariant-loop-event : goal.invariant-loop-event
invariant-loop-event l = record {
  is : l.passed ≡ length (filter (λ e. not (has_later l.pattern e)) (range_with_len 0 l.event));
  most : l.passed ≤ l.number;
}
