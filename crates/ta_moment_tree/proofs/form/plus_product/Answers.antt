use Rattle.ta_moment_tree.proofs.Common.{◌≡◌, ◌∙◌, ◌*◌, ◌^◌, ◌≤◌, ℤ, arith, sym, ap, subst, unsigned_abs, to_z_abs, UnknownForm, plus_form, times_form, SmallBy}
use Rattle.ta_moment_tree.proofs.Common.{form_of}
use Rattle.ta_moment_tree.proofs.Forms.{small_more, small_times}
use Rattle.ta_moment_tree.proofs.form.plus_product.Goals as goal

pub times-requires-clause-factor : goal.times-requires-clause-factor
times-requires-clause-factor c =
    let small = c.requires.factor in
    subst (λ (z : ℤ). unsigned_abs z ≤ 2 ^ 40) (sym (to_z_abs c.args.factor 17000000000 small (omega arith))) (omega arith)

pub times-requires-clause-form : goal.times-requires-clause-form
times-requires-clause-form c = small_more 3 (2 ^ 80) _ (omega arith) c.requires.x

pub plus-requires-clause-left : goal.plus-requires-clause-left
plus-requires-clause-left c = small_more (2 ^ 100) (2 ^ 120) _ (omega arith) c.requires.form

pub plus-requires-clause-right : goal.plus-requires-clause-right
plus-requires-clause-right c =
    let same = to_z_abs c.args.factor 17000000000 c.requires.factor (omega arith) in
    let x = form_of c.args.x.now in
    let is : form_of c.in_ok-product.product ≡ times_form c.args.factor x = c.in_ok-product.ensures ∙ ap (λ (z : ℤ). times_form z x) same in
    subst (λ (f : UnknownForm). SmallBy (2 ^ 120) f) (sym is)
    (small_more (17000000000 * 3) (2 ^ 120) _ (omega arith) (small_times 17000000000 3 c.args.factor x c.requires.factor c.requires.x))

pub returns : goal.returns
returns c =
    let same = to_z_abs c.args.factor 17000000000 c.requires.factor (omega arith) in
    c.in_ok-sum.ensures ∙ ap (plus_form (form_of c.args.form.now)) (c.in_ok-product.ensures ∙ ap (λ (z : ℤ). times_form z (form_of c.args.x.now)) same)
