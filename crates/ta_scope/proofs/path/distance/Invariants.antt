use Rattle.std.proofs.Common.{◌-◌, ◌^◌}
use Rattle.ta_scope.proofs.Stepping.{Layer}
use Rattle.ta_scope.proofs.path.distance.Given as goal

-- the locations at most so far away are reached
abbrev pub invariant-loop-more : goal.invariant-loop-more
invariant-loop-more l = Layer l.automaton l.rules l.fn.from l.to l.count l.reached

abbrev pub decreases-loop-more : goal.decreases-loop-more
decreases-loop-more l = 2 ^ 128 - l.reached
