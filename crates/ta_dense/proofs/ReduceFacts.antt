use Rattle.ta_dense.proofs.Common.{◌≡◌, ◌<◌, ◌∷◌, map, sym, ap, ◌∙◌, ℤ, pos, ◌<ℤ◌, ◌≤ℤ◌, int_div, abs_natural, div-one, div_exact, factor_positive, map-div-one}
use Rattle.ta_dense.proofs.Common.{TableauRow, divided, divisor_of, factor_divisor, IsGcd, IsGcd-gcd_of, gcd_of_is, unsigned_abs}
use Rattle.ta_dense.proofs.Divide.{gcd_with_divides}
use Rattle.ta_dense.proofs.RowFacts.{row_same}

pub divisor_positive : (r : TableauRow) → pos 0 <ℤ r.denominator → 0 < divisor_of r
divisor_positive r h =
    let divides = gcd_with_divides (r.constant ∷ r.cells) (unsigned_abs r.denominator) in
    (factor_positive (divisor_of r) (int_div r.denominator (pos (divisor_of r))) r.denominator (div_exact (divisor_of r) r.denominator divides.0) h).0

pub divided-one : (r : TableauRow) → divided 1 r ≡ r
divided-one r = row_same r.basic (int_div r.denominator (pos 1)) r.denominator (int_div r.constant (pos 1)) r.constant (map (λ z. int_div z (pos 1)) r.cells)
    r.cells (div-one r.denominator) (div-one r.constant) (map-div-one r.cells)

-- what the greatest common divisor of two cells is
pub factor_divisor-is : (c a r : ℤ) → IsGcd (unsigned_abs c) (unsigned_abs a) (unsigned_abs r) → pos 0 ≤ℤ r → r ≡ pos (factor_divisor c a)
factor_divisor-is c a r g h = sym (abs_natural r h) ∙ ap pos (gcd_of_is (unsigned_abs c) (unsigned_abs a) (unsigned_abs r) g)

pub factors_positive : (c a : ℤ) → pos 0 <ℤ c → (0 < factor_divisor c a) × (pos 0 <ℤ int_div c (pos (factor_divisor c a)))
factors_positive c a h = factor_positive (factor_divisor c a) (int_div c (pos (factor_divisor c a))) c
    (div_exact (factor_divisor c a) c (IsGcd-gcd_of (unsigned_abs c) (unsigned_abs a)).0) h
