use Rattle.ta_linear.proofs.Common.{◌*ℤ◌, FitsSigned, refl, to_z-of_z, fits_signed_from_abs, w64, w128}
use Rattle.ta_linear.proofs.SmallProduct.{small_product}
use Rattle.ta_linear.proofs.number.multiply.Goals as goal

pub returns-in-Ok-try_from : goal.returns-in-Ok-try_from
returns-in-Ok-try_from c =
    let a : FitsSigned w128 c.args.a = c.ranges.a in
    let b : FitsSigned w128 c.args.b = c.ranges.b in
    let x = simp to_z-of_z at c.in-Ok.ensures in
    let y = simp to_z-of_z at c.in-Ok-try_from.ensures in
    let small_a : FitsSigned w64 c.args.a = x.0 in
    let small_b : FitsSigned w64 c.args.b = y.0 in
    let within = small_product c.args.a c.args.b small_a small_b in
    let product : FitsSigned w128 (c.args.a *ℤ c.args.b) = fits_signed_from_abs w128 (c.args.a *ℤ c.args.b) within in
    (within, rw (x.1, y.1) (simp to_z-of_z refl))
