use Rattle.ta_links.proofs.Common.{◌≡◌, take, map, raised_head}
use Rattle.ta_links.proofs.extending.raised_heads.Given as goal

abbrev pub invariant-loop-head : goal.invariant-loop-head
invariant-loop-head l = l.all.items ≡ map (raised_head l.unknowns l.new) (take l.head-index l.heads)
