use Rattle.ta_links.proofs.Common.{◌-◌, spot, direction, line_places}
use Rattle.ta_links.proofs.Listed.{Listing}
use Rattle.ta_links.proofs.lines.list_line.Given as goal

abbrev pub invariant-list : goal.invariant-list
invariant-list l = Listing l.way l.links l.line l.before l.list.items

abbrev pub decreases-list : goal.decreases-list
decreases-list l = line_places l.way l.links - spot (direction l.way) l.links.cells.items l.before
