use Rattle.ta_encode.proofs.Common.{[], ◌∷◌, ◌++◌, map, take, ap, ◌∙◌, Row, form_row}
use Rattle.ta_encode.proofs.Adding.{adds_more, map_more}
use Rattle.ta_encode.proofs.draft.Draft.push_rows.Goals as goal

pub loop-row-preserved : goal.loop-row-preserved
loop-row-preserved c =
    let a = c.args.self.now.automaton.now in
    let ms = c.args.self.now.meanings.items in
    let i = c.loop-row.row-index in
    adds_more
    (ap (λ (r : Row). map (λ (q : Row). form_row a ms q.form) (take i c.args.some.now) ++ form_row a ms r.form ∷ []) c.row-item.is
    ∙ map_more (λ (q : Row). form_row a ms q.form) c.args.some.now i c.row-item.result c.loop-row-test.true)
    c.loop-row.invariant c.in_ok-push_form.ensures
