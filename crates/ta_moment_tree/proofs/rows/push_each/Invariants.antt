use Rattle.ta_moment_tree.proofs.Common.{map, take, vector_of, AddsForms}
use Rattle.ta_moment_tree.proofs.rows.push_each.Given as goal

abbrev pub invariant-loop-rule : goal.invariant-loop-rule
invariant-loop-rule l = AddsForms (map (vector_of l.vector) (take l.rule-index l.rules)) l.fn.rows.items l.rows.items
