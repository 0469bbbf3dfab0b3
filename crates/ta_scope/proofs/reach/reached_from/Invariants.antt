use Rattle.std.proofs.Common.{◌-◌, ◌^◌}
use Rattle.ta_scope.proofs.Reaching.{Reached}
use Rattle.ta_scope.proofs.reach.reached_from.Given as goal

abbrev pub invariant-loop-more : goal.invariant-loop-more
invariant-loop-more l = Reached l.automaton l.rules l.fn.location l.reached

abbrev pub decreases-loop-more : goal.decreases-loop-more
decreases-loop-more l = 2 ^ 128 - l.reached
