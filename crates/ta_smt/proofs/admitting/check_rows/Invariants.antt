use Rattle.ta_smt.proofs.Common.{PassedTo, point_of, Row, RowPasses}
use Rattle.ta_smt.proofs.admitting.check_rows.Given as goal

abbrev pub invariant-loop-number : goal.invariant-loop-number
invariant-loop-number l = PassedTo (λ j (row : Row). RowPasses (point_of l.values) row) l.rows l.number
