use Rattle.ta_scope.proofs.Common.{take, SubtractsFrom}
use Rattle.ta_scope.proofs.circulation.subtract.Given as goal

-- the amount is subtracted from the counts of the earlier rules
abbrev pub invariant-loop-number : goal.invariant-loop-number
invariant-loop-number l = SubtractsFrom (take l.number-index l.rules) l.amount l.initial.counts l.counts
