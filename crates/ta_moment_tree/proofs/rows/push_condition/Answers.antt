use Rattle.ta_moment_tree.proofs.Common.{◌∙◌, ap, ◌++◌, List, map, take, Row, Comparison, condition_at, form_at, vector_of}
use Rattle.ta_moment_tree.proofs.Adding.{adds_more, flat_more}
use Rattle.ta_moment_tree.proofs.rows.push_condition.Goals as goal

pub loop-comparison-preserved : goal.loop-comparison-preserved
loop-comparison-preserved c =
    let a = c.args.plan.now.task.automaton.now in
    let p = c.args.plan.now.task.pattern.now in
    let v = vector_of c.args.vector.now in
    let g = λ (r : Row). form_at a p v r.form in
    let items = c.as_slice-comparison-items.result.now in
    let i = c.loop-comparison.comparison-index in
    adds_more _ _ _ _ _ _
    (ap (λ (rs : List Row). condition_at a p v (take i items) ++ map g rs) c.as_slice.ensures
    ∙ ap (λ (q : Comparison). condition_at a p v (take i items) ++ map g q.rows) c.comparison-item.is
    ∙ flat_more (λ (q : Comparison). map g q.rows) items i c.comparison-item.result c.loop-comparison-test.true)
    c.loop-comparison.invariant c.in_ok-push_rows.ensures
