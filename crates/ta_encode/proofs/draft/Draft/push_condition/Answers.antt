use Rattle.ta_encode.proofs.Common.{List, ◌++◌, map, take, ap, ◌∙◌, Row, Comparison, form_row, condition_rows}
use Rattle.ta_encode.proofs.Adding.{adds_more, flat_more}
use Rattle.ta_encode.proofs.draft.Draft.push_condition.Goals as goal

pub loop-comparison-preserved : goal.loop-comparison-preserved
loop-comparison-preserved c =
    let a = c.args.self.now.automaton.now in
    let ms = c.args.self.now.meanings.items in
    let items = c.as_slice-comparison-items.result.now in
    let i = c.loop-comparison.comparison-index in
    adds_more
    (ap (λ (rs : List Row). condition_rows a ms (take i items) ++ map (λ (r : Row). form_row a ms r.form) rs) c.as_slice.ensures
    ∙ ap (λ (q : Comparison). condition_rows a ms (take i items) ++ map (λ (r : Row). form_row a ms r.form) q.rows) c.comparison-item.is
    ∙ flat_more (λ (q : Comparison). map (λ (r : Row). form_row a ms r.form) q.rows) items i c.comparison-item.result c.loop-comparison-test.true)
    c.loop-comparison.invariant c.in_ok-push_rows.ensures
