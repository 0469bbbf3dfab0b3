use Rattle.ta_moment_tree.proofs.Common.{◌≡◌, ap, subst, ℤ, Err, to_z_abs, IsMultiple, MultipleOutOfRange, arith, to_z, of_z, ◌^◌, w128}
use Rattle.ta_moment_tree.proofs.Forms.{multiple_same, product_stays}
use Rattle.ta_moment_tree.proofs.form.times.Goals as goal

pub unreachable-requires : goal.unreachable-requires
unreachable-requires c =
    let same : to_z w128 (of_z w128 c.args.factor) ≡ c.args.factor = to_z_abs c.args.factor (2 ^ 40) c.requires.factor (omega arith) in
    product_stays c.args.x.now c.args.factor c.requires.factor c.requires.form
    (subst (λ (z : ℤ). MultipleOutOfRange c.args.x.now z) same (c.in-Err-Overflow.ensures.overflow (ap Err c.in-Err-Overflow.field-0-is)))

pub returns-in-Ok : goal.returns-in-Ok
returns-in-Ok c =
    let same : to_z w128 (of_z w128 c.args.factor) ≡ c.args.factor = to_z_abs c.args.factor (2 ^ 40) c.requires.factor (omega arith) in
    multiple_same c.in-Ok.product c.args.x.now c.args.factor (subst (λ (z : ℤ). IsMultiple c.in-Ok.product c.args.x.now z) same c.in-Ok.ensures.ok)
