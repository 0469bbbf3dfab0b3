use Rattle.ta_scope.proofs.Common.{◌≡◌, take, steps_along}
use Rattle.ta_scope.proofs.arrange.steps_of.Given as goal

-- the steps along the earlier locations
abbrev pub invariant-loop-location : goal.invariant-loop-location
invariant-loop-location l = l.steps.items ≡ steps_along l.automaton l.counts (take l.location-index l.order)
