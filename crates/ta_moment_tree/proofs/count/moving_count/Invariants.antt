use Rattle.ta_moment_tree.proofs.Common.{◌≡◌, length, slice_get, filter, range_with_len, is_moving}
use Rattle.ta_moment_tree.proofs.count.moving_count.Given as goal

abbrev pub invariant-loop-rule : goal.invariant-loop-rule
invariant-loop-rule l = l.count ≡ length (filter (λ r. is_moving l.pattern (slice_get l.automaton.rules r)) (range_with_len 0 l.rule))
