use Rattle.ta_links.proofs.Common.{direction, sym}
use Rattle.ta_links.proofs.Heads.{following_live}
use Rattle.ta_links.proofs.seeking.next_before.Goals as goal

pub cell_behind-requires-clause-before : goal.cell_behind-requires-clause-before
cell_behind-requires-clause-before c h e = (c.requires.before h e).live.inside

pub cell_of-cell-requires : goal.cell_of-cell-requires
cell_of-cell-requires c =
    (following_live (direction c.args.way) c.args.cells.now c.args.heads.now c.args.line c.args.place c.args.before c.requires.chained c.requires.before
    c.in_ok-next.next (sym c.in_ok-next.ensures)).0.inside
