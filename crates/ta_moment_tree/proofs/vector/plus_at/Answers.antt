use Rattle.ta_moment_tree.proofs.Common.{◌∙◌, ◌^◌, arith, sym, ap, subst, UnknownForm, plus_form, SmallBy, form_of}
use Rattle.ta_moment_tree.proofs.Forms.{small_more}
use Rattle.ta_moment_tree.proofs.vector.plus_at.Goals as goal

pub plus-requires-clause-right : goal.plus-requires-clause-right
plus-requires-clause-right c = subst (λ (f : UnknownForm). SmallBy (2 ^ 120) f) (sym c.of_rule.ensures)
    (small_more 3 (2 ^ 120) _ (omega arith) (c.requires.vector.each c.args.rule))

pub returns : goal.returns
returns c = c.in_ok-sum.ensures ∙ ap (plus_form (form_of c.args.x.now)) c.of_rule.ensures
