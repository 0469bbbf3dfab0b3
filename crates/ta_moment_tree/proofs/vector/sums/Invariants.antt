use Rattle.ta_moment_tree.proofs.Common.{◌≡◌, ℕ, ◌<◌, length, plus_form, vector_of}
use Rattle.ta_moment_tree.proofs.vector.sums.Given as goal

abbrev pub invariant-loop-rule : goal.invariant-loop-rule
invariant-loop-rule l = record {
  count : length l.forms.items ≡ l.rule;
  each : (r : ℕ) → r < l.rule → vector_of l.forms.items r ≡ plus_form (vector_of l.left r) (vector_of l.right r);
}
