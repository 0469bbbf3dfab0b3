use Rattle.ta_moment_tree.proofs.Common.{◌∙◌, ◌^◌, ◌∷◌, [], arith, ap, UnknownForm, opposite_form}
use Rattle.ta_moment_tree.proofs.Adding.{adds_both, adds_same}
use Rattle.ta_moment_tree.proofs.Forms.{small_more}
use Rattle.ta_moment_tree.proofs.uses.push_one_step.Goals as goal

pub opposite-requires : goal.opposite-requires
opposite-requires c = small_more 1025 (2 ^ 119) _ (omega arith) c.in_ok-steps.ensures.small

pub returns : goal.returns
returns c =
    adds_both _ _ _ _ _ (adds_same _ _ _ _ (ap (λ (f : UnknownForm). f ∷ []) c.in_ok-steps.ensures.value) c.in_ok-push_form.ensures)
    (adds_same _ _ _ _ (ap (λ (f : UnknownForm). f ∷ []) (c.in_ok-turned.ensures ∙ ap opposite_form c.in_ok-steps.ensures.value)) c.in_ok-push_form-2.ensures)
