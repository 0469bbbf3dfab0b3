use Rattle.ta_links.proofs.Common.{sym, along_rows}
use Rattle.ta_links.proofs.Heads.{following_live}
use Rattle.ta_links.proofs.seeking.cell_at_place.Goals as goal

pub cell_of-requires : goal.cell_of-requires
cell_of-requires c =
    (following_live along_rows c.args.cells.now c.args.heads.now c.args.row c.args.column c.args.left c.requires.chained c.requires.left.may c.in_ok-next.next
    (sym c.in_ok-next.ensures)).0.inside
