use Rattle.ta_scope.proofs.Common.{ℕ, ◌<◌, ◌≡◌, slice_get, Some, IsBitSet, Rule, Blocks}
use Rattle.ta_scope.proofs.order.is_ready.Given as goal

-- no earlier rule of the mask blocks the location
abbrev pub invariant-loop-number : goal.invariant-loop-number
invariant-loop-number l = (r : ℕ) (rule : Rule) → r < l.number → slice_get l.automaton.rules r ≡ Some rule
    → ¬ (IsBitSet l.rules r × Blocks l.placed l.location rule)
