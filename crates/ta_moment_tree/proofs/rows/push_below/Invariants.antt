use Rattle.ta_moment_tree.proofs.Common.{ℕ, map, take, filter, may_be_negative, minus_form, Speaks, vector_of, AddsForms}
use Rattle.ta_moment_tree.proofs.rows.push_below.Given as goal

abbrev pub invariant-loop-rule : goal.invariant-loop-rule
invariant-loop-rule l =
    (n : ℕ) → ((r : ℕ) → Speaks n (vector_of l.beneath r)) → ((r : ℕ) → Speaks n (vector_of l.above r))
    → AddsForms (filter (may_be_negative n) (map (λ r. minus_form (vector_of l.above r) (vector_of l.beneath r)) (take l.rule-index l.rule-items)))
    l.fn.rows.items l.rows.items
