use Rattle.ta_moment_tree.proofs.Common.{◌∙◌, ◌^◌, arith, sym, ap, subst, UnknownForm, minus_form, SmallBy, form_of, vector_of}
use Rattle.ta_moment_tree.proofs.Forms.{small_more}
use Rattle.ta_moment_tree.proofs.vector.difference_at.Goals as goal

pub minus-requires-clause-left : goal.minus-requires-clause-left
minus-requires-clause-left c = subst (λ (f : UnknownForm). SmallBy (2 ^ 119) f) (sym c.of_rule.ensures)
    (small_more 3 (2 ^ 119) _ (omega arith) (c.requires.above.each c.args.rule))

pub minus-requires-clause-right : goal.minus-requires-clause-right
minus-requires-clause-right c = subst (λ (f : UnknownForm). SmallBy (2 ^ 119) f) (sym c.of_rule-2.ensures)
    (small_more 3 (2 ^ 119) _ (omega arith) (c.requires.beneath.each c.args.rule))

pub returns : goal.returns
returns c = c.in_ok-form.ensures ∙ ap (λ (f : UnknownForm). minus_form f (form_of c.of_rule-2.result.now)) c.of_rule.ensures
    ∙ ap (minus_form (vector_of c.args.above.now c.args.rule)) c.of_rule-2.ensures
