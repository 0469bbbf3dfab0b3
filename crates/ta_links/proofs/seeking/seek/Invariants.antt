use Rattle.ta_links.proofs.Common.{◌-◌, MayBefore, spot, direction}
use Rattle.ta_links.proofs.seeking.seek.Given as goal

abbrev pub invariant-seek : goal.invariant-seek
invariant-seek l = MayBefore (direction l.way) l.cells l.line l.place l.before

abbrev pub decreases-seek : goal.decreases-seek
decreases-seek l = l.place - spot (direction l.way) l.cells l.before
