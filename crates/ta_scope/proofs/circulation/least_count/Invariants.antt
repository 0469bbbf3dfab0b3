use Rattle.ta_scope.proofs.Taken.{LeastSoFar}
use Rattle.ta_scope.proofs.circulation.least_count.Given as goal

-- the least of the counts of the earlier rules
abbrev pub invariant-loop-number : goal.invariant-loop-number
invariant-loop-number l = LeastSoFar l.counts l.rules l.number-index l.least
