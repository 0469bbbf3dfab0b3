use Rattle.ta_revised.proofs.Common.{RowsHold}
use Rattle.ta_revised.proofs.short_rows.ShortRows.first_negative.Given as goal

abbrev pub invariant-loop-at : goal.invariant-loop-at
invariant-loop-at l = RowsHold l.scale l.values l.system.rows l.at
