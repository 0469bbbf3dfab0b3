use Rattle.ta_links.proofs.AllMerging.{Meeting}
use Rattle.ta_links.proofs.merging_all.merge_others.Given as goal

abbrev pub invariant-loop-at : goal.invariant-loop-at
invariant-loop-at l = Meeting l.first l.columns l.row l.column l.fn.heads.items l.fn.links l.met l.at-index l.heads.items l.links
