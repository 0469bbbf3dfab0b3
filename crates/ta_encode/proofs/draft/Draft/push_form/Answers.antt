use Rattle.ta_encode.proofs.Common.{w128, to_z, of_z, [], ◌∷◌, false, ap, ◌∙◌, to_z_range, line_row, in_sense, Plain}
use Rattle.ta_encode.proofs.Adding.{adds_alike, form_plain}
use Rattle.ta_encode.proofs.draft.Draft.push_form.Goals as goal

pub returns : goal.returns
returns c =
    let a = c.args.self.now.automaton.now in
    let ms = c.args.self.now.meanings.items in
    let form = c.args.form.now in
    adds_alike
    (ap (λ ts. in_sense c.args.sense (line_row a ms ts false Plain (to_z w128 (of_z w128 form.constant))) ∷ []) c.as_slice.ensures
    ∙ ap (λ z. in_sense c.args.sense (line_row a ms form.terms false Plain z) ∷ []) (to_z_range form.constant form.constant_fits)
    ∙ ap (λ l. in_sense c.args.sense l ∷ []) (form_plain a ms form))
    c.in_ok-push_line.ensures
