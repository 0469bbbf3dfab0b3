use Rattle.ta_scope.proofs.Common.{◌<◌, length, Distance}
use Rattle.ta_scope.proofs.Stepping.{Ahead}
use Rattle.ta_scope.proofs.path.path_of.Given as goal

-- what is left of the way is so long, and each first path for it makes the whole first
abbrev pub invariant-loop-left : goal.invariant-loop-left
invariant-loop-left l = record {
  exists : l.location < length l.automaton.locations;
  distance : Distance l.automaton l.rules l.location l.to l.left;
  ahead :
      Ahead l.automaton l.rules l.fn.from l.path.items l.location l.to;
}

abbrev pub decreases-loop-left : goal.decreases-loop-left
decreases-loop-left l = l.left
