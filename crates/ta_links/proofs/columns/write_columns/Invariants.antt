use Rattle.ta_links.proofs.ColumnSteps.{Overwritten}
use Rattle.ta_links.proofs.columns.write_columns.Given as goal

abbrev pub invariant-loop-column : goal.invariant-loop-column
invariant-loop-column l = Overwritten l.fn.links l.row l.list l.form.terms l.column-index l.left l.links
