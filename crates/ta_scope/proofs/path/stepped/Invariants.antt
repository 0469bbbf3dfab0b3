use Rattle.std.proofs.Common.{◌≤◌}
use Rattle.ta_scope.proofs.Stepping.{SteppedBefore}
use Rattle.ta_scope.proofs.path.stepped.Given as goal

-- the targets of the first rules are added
abbrev pub invariant-loop-number : goal.invariant-loop-number
invariant-loop-number l = record { stepped : SteppedBefore l.automaton l.rules l.mask l.number l.more; grows : l.mask ≤ l.more }
