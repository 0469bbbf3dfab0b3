use Rattle.ta_moment_tree.proofs.Common.{◌^◌, ◌∙◌, arith, ap, sym, subst, UnknownForm, plus_form, SmallBy, form_of}
use Rattle.ta_moment_tree.proofs.Forms.{plus_turned, small_more, small_turned}
use Rattle.ta_moment_tree.proofs.form.minus.Goals as goal

pub plus-requires-clause-left : goal.plus-requires-clause-left
plus-requires-clause-left c = small_more (2 ^ 119) (2 ^ 120) (form_of c.args.x.now) (omega arith) c.requires.left

pub plus-requires-clause-right : goal.plus-requires-clause-right
plus-requires-clause-right c =
    subst (λ (f : UnknownForm). SmallBy (2 ^ 120) f) (sym c.in_ok-turned.ensures)
    (small_more (2 ^ 119) (2 ^ 120) _ (omega arith) (small_turned (2 ^ 119) (form_of c.args.y.now) c.requires.right))

pub returns : goal.returns
returns c = c.in_ok-sum.ensures ∙ ap (λ (f : UnknownForm). plus_form (form_of c.args.x.now) f) c.in_ok-turned.ensures
    ∙ plus_turned (form_of c.args.x.now) (form_of c.args.y.now)
