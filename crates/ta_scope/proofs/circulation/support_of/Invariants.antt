use Rattle.ta_scope.proofs.Taken.{SupportBefore}
use Rattle.ta_scope.proofs.circulation.support_of.Given as goal

-- the support of the earlier counts
abbrev pub invariant-loop-number : goal.invariant-loop-number
invariant-loop-number l = SupportBefore l.counts l.number l.rules
