use Rattle.ta_meaning.proofs.Common.{◌≤◌, ℤ, Err, unsigned_abs, FitsSigned, sym, ap, subst, rules, w128, to_z-of_z}
use Rattle.ta_meaning.proofs.SmallForms.{product_stays}
use Rattle.ta_meaning.proofs.forms.times.Goals as goal

pub unreachable-requires : goal.unreachable-requires
unreachable-requires c =
    let fits : FitsSigned w128 c.from.result = search rules in
    let small : unsigned_abs c.from.result ≤ 1000000000 = subst (λ (z : ℤ). unsigned_abs z ≤ 1000000000) (sym c.from.ensures) c.requires.factor in
    product_stays c.args.a.now c.from.result c.requires.form small
    (simp to_z-of_z at (c.in-Err-Overflow.ensures.overflow (ap Err c.in-Err-Overflow.field-0-is)))
