use Rattle.ta_moment_tree.proofs.Common.{◌≡◌, ◌∙◌, ◌∷◌, [], Option, Some, map, slice_get, ap, sym, Row, option_copied, UnknownForm, negated_form, guards}
use Rattle.ta_moment_tree.proofs.Common.{quiet_at, vector_of}
use Rattle.ta_moment_tree.proofs.Adding.{adds_same}
use Rattle.ta_moment_tree.proofs.silence.push_failing.Goals as goal

pub negated-requires : goal.negated-requires
negated-requires c = c.in_ok-form-in-Some.ensures.small

pub returns-in_ok-push_form-in-Some : goal.returns-in_ok-push_form-in-Some
returns-in_ok-push_form-in-Some c =
    let t = c.args.plan.now.task in
    let at : slice_get (guards t.automaton.now) c.args.guard ≡ Some c.in-Some.row.now = sym c.guard_row.ensures ∙ ap option_copied c.in-Some.is in
    adds_same _ _ _ _
    (ap (λ (g : UnknownForm). g ∷ []) c.in_ok-turned-in-Some.ensures
    ∙ ap (map negated_form) c.in_ok-form-in-Some.ensures.value
    ∙ sym (ap (λ (o : Option Row). map negated_form (quiet_at t.automaton.now t.pattern.now c.args.silent.now (vector_of c.args.vector.now) o)) at))
    c.in_ok-push_form-in-Some.ensures
