use Rattle.ta_counter.proofs.Common.{PassedTo, point_of, Row, RowPasses}
use Rattle.ta_counter.proofs.condition.rows_hold.Given as goal

abbrev pub invariant-loop-row : goal.invariant-loop-row
invariant-loop-row l = PassedTo (λ j (row : Row). RowPasses (point_of l.values) row) l.rows l.row-index
