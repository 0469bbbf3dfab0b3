use Rattle.ta_scope.proofs.Common.{ℕ, ◌<◌, ◌≡◌, slice_get, Some, Rule, IsStep}
use Rattle.ta_scope.proofs.path.first_step.Given as goal

-- no earlier rule is a step
abbrev pub invariant-loop-number : goal.invariant-loop-number
invariant-loop-number l = (r : ℕ) (rule : Rule) → r < l.number → slice_get l.automaton.rules r ≡ Some rule
    → ¬ IsStep l.automaton l.rules l.from l.to l.left r rule
