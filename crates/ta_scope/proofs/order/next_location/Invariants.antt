use Rattle.ta_scope.proofs.Common.{ℕ, ◌<◌, Ready}
use Rattle.ta_scope.proofs.order.next_location.Given as goal

-- no earlier location is ready
abbrev pub invariant-loop-location : goal.invariant-loop-location
invariant-loop-location l = (m : ℕ) → m < l.location → ¬ Ready l.automaton l.rules l.placed m
