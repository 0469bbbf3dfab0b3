use Rattle.ta_moment_tree.proofs.Common.{◌∙◌, ap, [], ◌∷◌, ◌++◌, map, take, Row, form_at, vector_of}
use Rattle.ta_moment_tree.proofs.Adding.{adds_more, map_more}
use Rattle.ta_moment_tree.proofs.rows.push_rows.Goals as goal

pub loop-row-preserved : goal.loop-row-preserved
loop-row-preserved c =
    let g = λ (r : Row). form_at c.args.plan.now.task.automaton.now c.args.plan.now.task.pattern.now (vector_of c.args.vector.now) r.form in
    let i = c.loop-row.row-index in
    adds_more _ _ _ _ _ _
    (ap (λ (r : Row). map g (take i c.args.some.now) ++ g r ∷ []) c.row-item.is ∙ map_more g c.args.some.now i c.row-item.result c.loop-row-test.true)
    c.loop-row.invariant c.in_ok-push_form_at.ensures
