use Rattle.ta_walk.proofs.Common.{◌≡◌, ◌∙◌, ℤ, pos, ◌*ℤ◌, ap, arith, sym, to_z, ints, FitsSigned, w128, to_z-of_z}
use Rattle.std.proofs.Common.{◌-ℤ◌}
use Rattle.ta_walk.proofs.Fitting.{with_zero}
use Rattle.ta_walk.proofs.known.next_sum.Goals as goal

pub returns-then-number-eq0 : goal.returns-then-number-eq0
returns-then-number-eq0 c =
    let sum : FitsSigned w128 c.args.sum = c.ranges.sum in
    let zero : c.args.number ≡ pos 0 = sym (to_z-of_z w128 c.args.number c.ranges.number) ∙ ap (to_z w128) c.if-number-eq0.true in
    let product = (c.args.one -ℤ c.args.other) *ℤ c.args.number in
    let none : product ≡ pos 0 = ap (λ (z : ℤ). (c.args.one -ℤ c.args.other) *ℤ z) zero ∙ omega (arith, ints) in
    simp to_z-of_z (sym (with_zero c.args.sum product c.requires.sum none))

pub returns-then-one-other : goal.returns-then-one-other
returns-then-one-other c =
    let sum : FitsSigned w128 c.args.sum = c.ranges.sum in
    let same : c.args.one ≡ c.args.other =
    sym (to_z-of_z w128 c.args.one c.ranges.one) ∙ ap (to_z w128) c.if-one-other.true ∙ to_z-of_z w128 c.args.other c.ranges.other in
    let zero : (c.args.one -ℤ c.args.other) ≡ pos 0 = omega (arith, ints, same) in
    let product = (c.args.one -ℤ c.args.other) *ℤ c.args.number in
    let none : product ≡ pos 0 = ap (λ (z : ℤ). z *ℤ c.args.number) zero ∙ omega (arith, ints) in
    simp to_z-of_z (sym (with_zero c.args.sum product c.requires.sum none))

pub returns : goal.returns
returns c =
    let sum : FitsSigned w128 c.args.sum = c.ranges.sum in
    let one : FitsSigned w128 c.args.one = c.ranges.one in
    let other : FitsSigned w128 c.args.other = c.ranges.other in
    let number : FitsSigned w128 c.args.number = c.ranges.number in
    let product = (c.args.one -ℤ c.args.other) *ℤ c.args.number in
    let known = simp to_z-of_z at c.add_known.ensures in
    known product (simp to_z-of_z at c.scaled_difference.ensures)
