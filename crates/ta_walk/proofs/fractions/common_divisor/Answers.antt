use Rattle.ta_walk.proofs.Common.{rules, ◌≡◌, ◌<◌, ◌%◌, ℕ, pos, ◌<ℤ◌, arith, sym, subst, unsigned_abs, FitsSigned, IsGcd, w128, ints, to_z-of_z, gcd_of}
use Rattle.ta_walk.proofs.Lowest.{divisor_is, divisor_some}
use Rattle.ta_walk.proofs.fractions.common_divisor.Goals as goal

pub returns-clause-value : goal.returns-clause-value
returns-clause-value c =
    let t : FitsSigned w128 c.args.value.top = search rules in
    let b : FitsSigned w128 c.args.value.bottom = search rules in
    let bottom : c.unsigned_abs-bottom.result ≡ unsigned_abs c.args.value.bottom = simp to_z-of_z at c.unsigned_abs-bottom.ensures.value in
    let top : c.unsigned_abs.result ≡ unsigned_abs c.args.value.top = simp to_z-of_z at c.unsigned_abs.ensures.value in
    divisor_is _ _ _ (subst (λ (n : ℕ). IsGcd n (unsigned_abs c.args.value.top % n) c.gcd_natural.result) bottom
    (subst (λ (m : ℕ). IsGcd c.unsigned_abs-bottom.result (m % c.unsigned_abs-bottom.result) c.gcd_natural.result) top c.gcd_natural.ensures.value))

pub returns-clause-some : goal.returns-clause-some
returns-clause-some c =
    let t : FitsSigned w128 c.args.value.top = search rules in
    let b : FitsSigned w128 c.args.value.bottom = search rules in
    let bottom : c.unsigned_abs-bottom.result ≡ unsigned_abs c.args.value.bottom = simp to_z-of_z at c.unsigned_abs-bottom.ensures.value in
    let top : c.unsigned_abs.result ≡ unsigned_abs c.args.value.top = simp to_z-of_z at c.unsigned_abs.ensures.value in
    let is : c.gcd_natural.result ≡ gcd_of (unsigned_abs c.args.value.top) (unsigned_abs c.args.value.bottom) = divisor_is _ _ _
    (subst (λ (n : ℕ). IsGcd n (unsigned_abs c.args.value.top % n) c.gcd_natural.result) bottom
    (subst (λ (m : ℕ). IsGcd c.unsigned_abs-bottom.result (m % c.unsigned_abs-bottom.result) c.gcd_natural.result) top c.gcd_natural.ensures.value)) in
    let some : pos 0 <ℤ c.args.value.bottom = c.args.value.positive in
    subst (λ (n : ℕ). 0 < n) (sym is) (divisor_some (unsigned_abs c.args.value.top) (unsigned_abs c.args.value.bottom) (omega (arith, ints, some)))
