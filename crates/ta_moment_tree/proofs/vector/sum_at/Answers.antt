use Rattle.ta_moment_tree.proofs.Common.{◌∙◌, ◌^◌, arith, sym, ap, subst, UnknownForm, plus_form, SmallBy, vector_of}
use Rattle.ta_moment_tree.proofs.Forms.{small_more}
use Rattle.ta_moment_tree.proofs.vector.sum_at.Goals as goal

pub plus_at-requires-clause-form : goal.plus_at-requires-clause-form
plus_at-requires-clause-form c = subst (λ (f : UnknownForm). SmallBy (2 ^ 120) f) (sym c.of_rule.ensures)
    (small_more 3 (2 ^ 120) _ (omega arith) (c.requires.left.each c.args.rule))

pub returns : goal.returns
returns c = c.in_ok-sum.ensures ∙ ap (λ (f : UnknownForm). plus_form f (vector_of c.args.right.now c.args.rule)) c.of_rule.ensures
