use Rattle.ta_walk.proofs.Common.{rules, ℤ, ◌*ℤ◌, subst, FitsSigned, SomeIff, w128, to_z-of_z, InRange}
use Rattle.std.proofs.Common.{◌-ℤ◌}
use Rattle.ta_walk.proofs.Fitting.{if_fits_is, multiple_out}
use Rattle.ta_walk.proofs.known.scaled_difference.Goals as goal

pub returns-in-None : goal.returns-in-None
returns-in-None c =
    let one : FitsSigned w128 c.args.one = c.ranges.one in
    let other : FitsSigned w128 c.args.other = c.ranges.other in
    let out = simp to_z-of_z at c.in-None.ensures in
    multiple_out (c.args.one -ℤ c.args.other) c.args.factor out c.requires.factor

pub returns-in-Some : goal.returns-in-Some
returns-in-Some c =
    let one : FitsSigned w128 c.args.one = c.ranges.one in
    let other : FitsSigned w128 c.args.other = c.ranges.other in
    let factor : FitsSigned w128 c.args.factor = c.ranges.factor in
    let fits : FitsSigned w128 c.in-Some.difference = search rules in
    let is = simp to_z-of_z at c.in-Some.ensures in
    let product = simp to_z-of_z at c.multiply.ensures in
    if_fits_is c.multiply.result ((c.args.one -ℤ c.args.other) *ℤ c.args.factor)
    (subst (λ (z : ℤ). SomeIff c.multiply.result (InRange (z *ℤ c.args.factor)) (z *ℤ c.args.factor)) is.1 product)
