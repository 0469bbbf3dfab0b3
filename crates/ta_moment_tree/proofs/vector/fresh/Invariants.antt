use Rattle.ta_moment_tree.proofs.Common.{◌≡◌, ℕ, ◌<◌, length, minus_form, vector_of}
use Rattle.ta_moments.specs.Moments.{fresh}
use Rattle.ta_moment_tree.proofs.vector.fresh.Given as goal

abbrev pub invariant-loop-rule : goal.invariant-loop-rule
invariant-loop-rule l = record {
  count : length l.forms.items ≡ l.rule;
  each : (r : ℕ) → r < l.rule → vector_of l.forms.items r ≡ fresh l.first l.rules (λ q. minus_form (vector_of l.above q) (vector_of l.beneath q)) r;
}
