use Rattle.ta_revised.proofs.Common.{inl, length, narrow_view}
use Rattle.ta_revised.proofs.UnitRow.{unit_stays}
use Rattle.ta_revised.proofs.unknown_rows.merge_row.Goals as goal

pub returns-then-own-column-clause-after : goal.returns-then-own-column-clause-after
returns-then-own-column-clause-after c =
    rw c.in-Column.is (inl (unit_stays (length c.args.chosen.now.cells) c.in-Column.unknown c.in-Column.own c.args.column (narrow_view c.args.chosen.now)
    c.if-own-column.true))
