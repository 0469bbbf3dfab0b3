use Rattle.ta_encode.proofs.Common.{◌≡◌, length, filter, has_bit, range_with_len}
use Rattle.ta_encode.proofs.count.firing_count.Given as goal

abbrev pub invariant-loop-rule : goal.invariant-loop-rule
invariant-loop-rule l = l.count ≡ length (filter (has_bit l.allowed) (range_with_len 0 l.rule))
