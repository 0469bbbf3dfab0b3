use Rattle.ta_scope.proofs.Common.{ℕ, ◌<◌, ◌≡◌, slice_get, Some, Rule, AtFault}
use Rattle.ta_scope.proofs.judge.first_at_fault.Given as goal

-- no earlier rule is in error
abbrev pub invariant-loop-number : goal.invariant-loop-number
invariant-loop-number l = (q : ℕ) (rule : Rule) → q < l.number → slice_get l.automaton.rules q ≡ Some rule → ¬ AtFault l.automaton rule
