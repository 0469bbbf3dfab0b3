use Rattle.ta_moment_tree.proofs.Common.{◌∙◌, ap, [], ◌∷◌, ◌++◌, take, UnknownForm, bound_form, bound_forms}
use Rattle.ta_moment_tree.proofs.Adding.{adds_more, adds_one, map_more}
use Rattle.ta_moment_tree.proofs.system.push_bounds.Goals as goal

pub loop-bound-preserved : goal.loop-bound-preserved
loop-bound-preserved c =
    let i = c.loop-bound.bound-index in
    adds_more _ _ _ _ _ _
    (ap (λ (f : UnknownForm). bound_forms (take i c.args.bounds.now) ++ f ∷ []) c.in_ok-form.ensures
    ∙ map_more bound_form c.args.bounds.now i _ c.loop-bound-test.true)
    c.loop-bound.invariant (adds_one _ _ _ c.in_ok-push.ensures.items)
