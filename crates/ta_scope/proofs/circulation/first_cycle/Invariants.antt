use Rattle.ta_scope.proofs.Common.{ℕ, ◌<◌, ◌≡◌, slice_get, Some, IsBitSet, Rule, OnCycle}
use Rattle.ta_scope.proofs.circulation.first_cycle.Given as goal

-- no earlier rule of the mask is on a cycle
abbrev pub invariant-loop-number : goal.invariant-loop-number
invariant-loop-number l = (r : ℕ) (rule : Rule) → r < l.number → slice_get l.automaton.rules r ≡ Some rule → IsBitSet l.rules r
    → ¬ OnCycle l.automaton l.rules rule
