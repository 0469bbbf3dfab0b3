use Rattle.std.proofs.Common.{drop}
use Rattle.ta_counter.proofs.Adding.{Adding}
use Rattle.ta_counter.proofs.start.sum.Given as goal

abbrev pub invariant-loop-count : goal.invariant-loop-count
invariant-loop-count l = Adding l.counts l.sum (drop l.count-index l.counts)
