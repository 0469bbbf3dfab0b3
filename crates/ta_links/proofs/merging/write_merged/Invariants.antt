use Rattle.ta_links.proofs.MergeSteps.{Rewritten}
use Rattle.ta_links.proofs.merging.write_merged.Given as goal

abbrev pub invariant-loop-place : goal.invariant-loop-place
invariant-loop-place l = Rewritten l.fn.links l.columns l.merge.row l.merge.at l.merge.p l.merge.q l.merge.column l.merge.turned l.divisor l.place l.cursors.at
    l.cursors.chosen l.links
