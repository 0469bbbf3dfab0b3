use Rattle.ta_scope.proofs.Common.{◌-◌, length, IsBuilt}
use Rattle.ta_scope.proofs.order.order_of.Given as goal

abbrev pub invariant-loop-location : goal.invariant-loop-location
invariant-loop-location l = IsBuilt l.automaton l.rules l.order.items

abbrev pub decreases-loop-location : goal.decreases-loop-location
decreases-loop-location l = length l.automaton.locations - length l.order.items
