use Rattle.ta_moment_tree.proofs.Common.{◌∙◌, ap, [], ◌∷◌, ◌++◌, map, take, UnknownForm, vector_of}
use Rattle.ta_moment_tree.proofs.Adding.{adds_more, map_more}
use Rattle.ta_moment_tree.proofs.rows.push_each.Goals as goal

pub loop-rule-preserved : goal.loop-rule-preserved
loop-rule-preserved c =
    let g = vector_of c.args.vector.now in
    let i = c.loop-rule.rule-index in
    adds_more _ _ _ _ _ _
    (ap (λ (f : UnknownForm). map g (take i c.args.rules.now) ++ f ∷ []) c.in_ok-form.ensures
    ∙ map_more g c.args.rules.now i 0 c.loop-rule-test.true)
    c.loop-rule.invariant c.in_ok-push_form.ensures
