use Rattle.ta_revised.proofs.Common.{◌<◌, subst, IsUnknownRow, UnknownRow}
use Rattle.ta_revised.proofs.UnitRow.{unit_filled}
use Rattle.ta_revised.proofs.revised.grown_row.Goals as goal

pub returns-in-Column-clause-value : goal.returns-in-Column-clause-value
returns-in-Column-clause-value c =
    let inside : c.in-Column.column < c.args.old = subst (λ (r : UnknownRow). IsUnknownRow c.args.old r) c.in-Column.is c.requires.row in
    rw c.in-Column.is (unit_filled c.args.old c.args.columns c.in-Column.unknown c.in-Column.column inside c.requires.more)
