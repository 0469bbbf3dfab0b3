use Rattle.ta_linear.proofs.Common.{to_z_pos, to_z-of_z, FitsSigned, w128, IsGcd-whole}
use Rattle.ta_linear.proofs.number.gcd.Goals as goal

pub returns-clause-value : goal.returns-clause-value
returns-clause-value c =
    let a : FitsSigned w128 c.args.a = c.ranges.a in
    let b : FitsSigned w128 c.args.b = c.ranges.b in
    IsGcd-whole c.args.a c.args.b _ _ _ _ (simp to_z-of_z at c.unsigned_abs.ensures.value) (simp to_z-of_z at c.unsigned_abs-2.ensures.value)
    (to_z_pos w128 c.gcd_natural.result c.gcd_natural.ensures.fits) c.gcd_natural.ensures.value
