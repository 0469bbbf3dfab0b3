use Rattle.ta_moment_tree.proofs.Common.{◌≡◌, ◌∙◌, ℤ, ◌*◌, ◌≤◌, ◌^◌, arith, sym, ap, subst, to_z_abs, unsigned_abs, UnknownForm, times_form, SmallBy, form_of}
use Rattle.ta_moment_tree.proofs.Forms.{small_more, small_times}
use Rattle.ta_moment_tree.proofs.at.product_at.Goals as goal

pub times-requires-clause-factor : goal.times-requires-clause-factor
times-requires-clause-factor c =
    let small = c.requires.coefficient in
    subst (λ (z : ℤ). unsigned_abs z ≤ 2 ^ 40) (sym (to_z_abs c.args.coefficient 1000000000 small (omega arith))) (omega arith)

pub times-requires-clause-form : goal.times-requires-clause-form
times-requires-clause-form c = small_more (17000000000 * 3100) (2 ^ 80) _ (omega arith) c.in_ok-value.ensures.small

pub returns : goal.returns
returns c =
    let value = form_of c.in_ok-value.value in
    let z = c.args.coefficient in
    let is : form_of c.in_ok-product.product ≡ times_form z value = c.in_ok-product.ensures
    ∙ ap (λ (y : ℤ). times_form y value) (to_z_abs z 1000000000 c.requires.coefficient (omega arith)) in
    record {
      value = is ∙ ap (times_form z) c.in_ok-value.ensures.value;
      small = subst (λ (f : UnknownForm). SmallBy 52700000000000000000000 f) (sym is)
          (small_times 1000000000 52700000000000 z value c.requires.coefficient c.in_ok-value.ensures.small);
    }
