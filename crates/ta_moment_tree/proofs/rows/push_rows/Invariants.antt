use Rattle.ta_moment_tree.proofs.Common.{map, take, Row, form_at, vector_of, AddsForms}
use Rattle.ta_moment_tree.proofs.rows.push_rows.Given as goal

abbrev pub invariant-loop-row : goal.invariant-loop-row
invariant-loop-row l = AddsForms
    (map (λ (r : Row). form_at l.plan.task.automaton.now l.plan.task.pattern.now (vector_of l.vector) r.form) (take l.row-index l.some)) l.fn.rows.items
    l.rows.items
