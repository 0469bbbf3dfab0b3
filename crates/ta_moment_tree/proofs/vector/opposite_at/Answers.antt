use Rattle.ta_moment_tree.proofs.Common.{◌∙◌, ◌^◌, arith, sym, ap, subst, UnknownForm, opposite_form, SmallBy}
use Rattle.ta_moment_tree.proofs.Forms.{small_more}
use Rattle.ta_moment_tree.proofs.vector.opposite_at.Goals as goal

pub opposite-requires : goal.opposite-requires
opposite-requires c = subst (λ (f : UnknownForm). SmallBy (2 ^ 119) f) (sym c.of_rule.ensures)
    (small_more 3 (2 ^ 119) _ (omega arith) (c.requires.each c.args.rule))

pub returns : goal.returns
returns c = c.in_ok-form.ensures ∙ ap opposite_form c.of_rule.ensures
