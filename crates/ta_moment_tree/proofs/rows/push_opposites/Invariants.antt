use Rattle.ta_moment_tree.proofs.Common.{map, take, opposite_form, vector_of, AddsForms}
use Rattle.ta_moment_tree.proofs.rows.push_opposites.Given as goal

abbrev pub invariant-loop-rule : goal.invariant-loop-rule
invariant-loop-rule l = AddsForms (map (λ r. opposite_form (vector_of l.vector r)) (take l.rule-index l.rules)) l.fn.rows.items l.rows.items
