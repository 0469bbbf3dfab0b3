use Rattle.ta_scope.proofs.Common.{ℕ, ◌<◌, ◌≡◌, slice_get, Some, Rule, LeadsOut}
use Rattle.ta_scope.proofs.reach.grown.Given as goal

-- no earlier rule leads out of the mask
abbrev pub invariant-loop-number : goal.invariant-loop-number
invariant-loop-number l = (r : ℕ) (rule : Rule) → r < l.number → slice_get l.automaton.rules r ≡ Some rule → ¬ LeadsOut l.rules l.mask r rule
