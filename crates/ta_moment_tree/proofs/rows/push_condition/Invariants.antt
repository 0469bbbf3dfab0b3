use Rattle.ta_moment_tree.proofs.Common.{take, condition_at, vector_of, AddsForms}
use Rattle.ta_moment_tree.proofs.rows.push_condition.Given as goal

abbrev pub invariant-loop-comparison : goal.invariant-loop-comparison
invariant-loop-comparison l = AddsForms
    (condition_at l.plan.task.automaton.now l.plan.task.pattern.now (vector_of l.vector) (take l.comparison-index l.comparison-items)) l.fn.rows.items
    l.rows.items
