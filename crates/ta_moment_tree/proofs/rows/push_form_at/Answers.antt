use Rattle.ta_moment_tree.proofs.Common.{◌∙◌, ℕ, ℤ, ap, [], ◌∷◌, List, to_z_range, UnknownForm, number_form, plus_form, place_form, vector_of}
use Rattle.ta_moments.specs.Forms.{terms_form}
use Rattle.ta_moment_tree.proofs.Adding.{adds_same}
use Rattle.ta_moment_tree.proofs.rows.push_form_at.Goals as goal

pub returns : goal.returns
returns c =
    let f = c.args.form.now in
    let point = place_form c.args.plan.now.task.automaton.now c.args.plan.now.task.pattern.now (vector_of c.args.vector.now) in
    adds_same _ _ _ _
    (ap (λ (g : UnknownForm). g ∷ [])
    (c.in_ok-written.ensures.value ∙ ap (λ (z : ℤ). plus_form (number_form z) (terms_form point c.as_slice.result.now))
    (to_z_range c.args.form.now.constant c.args.form.now.constant_fits)
    ∙ ap (λ (ts : List (ℕ × ℤ)). plus_form (number_form c.args.form.now.constant) (terms_form point ts)) c.as_slice.ensures))
    c.in_ok-push_form.ensures
