use Rattle.ta_counter.proofs.Common.{IsBitSet, PassedTo, point_of, Row, RowPasses}
use Rattle.ta_counter.proofs.guards.check_rows.Given as goal

abbrev pub invariant-loop-number : goal.invariant-loop-number
invariant-loop-number l =
    PassedTo (λ j (row : Row). IsBitSet l.mask j → RowPasses (point_of l.values) row) l.rows l.number
