use Rattle.ta_revised.proofs.Common.{drop}
use Rattle.ta_revised.proofs.RowValues.{RowSumming}
use Rattle.ta_revised.proofs.short_rows.row_value_of.Given as goal

abbrev pub invariant-loop-unknown : goal.invariant-loop-unknown
invariant-loop-unknown l = RowSumming l.scale l.values (l.fn.constant, l.terms) l.value (drop l.unknown-index l.terms)
