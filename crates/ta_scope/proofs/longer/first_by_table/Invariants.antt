use Rattle.ta_scope.proofs.Common.{ℕ, ◌<◌, ◌≡◌, slice_get, Some, Rule, OnLongerCycle}
use Rattle.ta_scope.proofs.longer.first_by_table.Given as goal

-- no earlier rule is on such a cycle
abbrev pub invariant-loop-number : goal.invariant-loop-number
invariant-loop-number l = (q : ℕ) (rule : Rule) → q < l.number → slice_get l.automaton.rules q ≡ Some rule → ¬ OnLongerCycle l.automaton rule
