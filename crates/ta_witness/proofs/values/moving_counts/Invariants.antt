use Rattle.ta_witness.proofs.Common.{◌≡◌, pos, cond, map, slice_get, range_with_len, count_at}
use Rattle.ta_moments.specs.Facts.{is_moving}
use Rattle.ta_witness.proofs.values.moving_counts.Given as goal

-- those of the earlier rules
abbrev pub invariant-loop-rule : goal.invariant-loop-rule
invariant-loop-rule l = l.counts.items ≡ map (λ r. cond (is_moving l.pattern (slice_get l.automaton.rules r)) (count_at l.numbers r) (pos 0))
    (range_with_len 0 l.rule)
