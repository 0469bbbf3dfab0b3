use Rattle.ta_scope.proofs.Common.{◌≡◌, ◌++◌, steps_from}
use Rattle.ta_scope.proofs.arrange.push_steps.Given as goal

-- the steps of the earlier rules are added
abbrev pub invariant-loop-number : goal.invariant-loop-number
invariant-loop-number l = l.steps.items ≡ l.initial.steps.items ++ steps_from l.automaton l.counts l.location l.number
