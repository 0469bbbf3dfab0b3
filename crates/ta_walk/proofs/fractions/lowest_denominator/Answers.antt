use Rattle.ta_walk.proofs.Common.{◌≡◌, ◌<◌, ◌/◌, ℕ, pos, ◌<ℤ◌, ◌∙◌, arith, rules, sym, subst, unsigned_abs, FitsSigned, w128, ints, to_z-of_z}
use Rattle.ta_moments.specs.Vertices.{common_divisor}
use Rattle.ta_walk.proofs.Lowest.{lowest_of_one, quotient_some}
use Rattle.ta_walk.proofs.fractions.lowest_denominator.Goals as goal

pub returns-clause-some : goal.returns-clause-some
returns-clause-some c =
    let t : FitsSigned w128 c.args.value.top = search rules in
    let b : FitsSigned w128 c.args.value.bottom = search rules in
    let bottom : c.unsigned_abs-bottom.result ≡ unsigned_abs c.args.value.bottom = simp to_z-of_z at c.unsigned_abs-bottom.ensures.value in
    let divisor : c.common_divisor.result ≡ common_divisor (c.args.value.top, c.args.value.bottom) = c.common_divisor.ensures.value in
    let some : pos 0 <ℤ c.args.value.bottom = c.args.value.positive in
    subst (λ (n : ℕ). 0 < n / c.common_divisor.result) (sym bottom)
    (subst (λ (n : ℕ). 0 < unsigned_abs c.args.value.bottom / n) (sym divisor)
    (quotient_some (unsigned_abs c.args.value.top) (unsigned_abs c.args.value.bottom) (omega (arith, ints, some))))

pub returns-then-bottom-eq1-clause-value : goal.returns-then-bottom-eq1-clause-value
returns-then-bottom-eq1-clause-value c =
    let b : FitsSigned w128 c.args.value.bottom = search rules in
    let bottom : c.unsigned_abs-bottom.result ≡ unsigned_abs c.args.value.bottom = simp to_z-of_z at c.unsigned_abs-bottom.ensures.value in
    lowest_of_one (unsigned_abs c.args.value.top) (unsigned_abs c.args.value.bottom) (sym bottom ∙ c.if-bottom-eq1.true)
