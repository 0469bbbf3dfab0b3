use Rattle.ta_revised.proofs.Common.{◌≤◌, ◌≡◌, ◌^◌, ◌*ℤ◌, FitsSigned, arith, pos, rules, subst, unsigned_abs, fits_signed_from_abs, to_z-of_z, ◌∣◌, w64}
use Rattle.ta_revised.proofs.Common.{IsNarrow, IsUnknownRow, unknown_row, UnknownRow}
use Rattle.std.proofs.Common.{of_z, to_z}
use Rattle.std.specs.Int.{w16}
use Rattle.ta_revised.proofs.ScaleFacts.{computed_quotient, scaled_value, quotient_small}
use Rattle.ta_revised.proofs.values.value_of.Goals as goal

-- the row keeps what rows of 16-bit numbers keep
narrow : (c : goal.After-result-1) → IsNarrow c.args.columns c.in-Basic.basic
narrow c = subst (λ (r : UnknownRow). IsUnknownRow c.args.columns r) c.in-Basic.is c.requires.row

-- the product is small
small : (c : goal.After-result-1) → unsigned_abs (pos c.quotient-factor.result *ℤ c.in-Basic.basic.constant) ≤ 2 ^ 46
small c =
    let n = narrow c in
    let b = n.bounded.constant in
    let f = n.fits in
    rw c.quotient-factor.ensures (quotient_small c.args.scale c.unsigned_abs.result c.in-Basic.basic.constant c.requires.few (omega arith))

-- the product as it is computed
computed : (c : goal.After-result-1) →
    to_z w64 c.quotient-factor.result *ℤ to_z w64 (of_z w64 (to_z w16 (of_z w16 c.in-Basic.basic.constant)))
    ≡ pos c.quotient-factor.result *ℤ c.in-Basic.basic.constant
computed c =
    let fits : FitsSigned w16 c.in-Basic.basic.constant = search rules in
    rw c.quotient-factor.ensures (computed_quotient c.args.scale c.unsigned_abs.result c.in-Basic.basic.constant c.requires.few fits)

-- the product fits 64 bits
fits_in : (c : goal.After-result-1) → FitsSigned w64 (pos c.quotient-factor.result *ℤ c.in-Basic.basic.constant)
fits_in c = fits_signed_from_abs w64 _ (omega (arith, small c))

pub overflow_mul-result : goal.overflow_mul-result
overflow_mul-result c = rw (computed c) (fits_in c)

pub returns-else-basic-eq0-clause-value : goal.returns-else-basic-eq0-clause-value
returns-else-basic-eq0-clause-value c =
    let fits : FitsSigned w16 c.in-Basic.basic.denominator = search rules in
    let divisor = simp to_z-of_z at c.unsigned_abs.ensures.value in
    let multiple = subst (λ (r : UnknownRow). unsigned_abs (unknown_row c.args.columns r).denominator ∣ c.args.scale) c.in-Basic.is c.requires.multiple in
    rw (computed c, to_z-of_z w64 _ (fits_in c), c.in-Basic.is, c.quotient-factor.ensures, divisor)
    (scaled_value c.args.scale c.in-Basic.basic.denominator c.in-Basic.basic.constant (narrow c).proper.positive multiple)

pub returns-else-basic-eq0-clause-small : goal.returns-else-basic-eq0-clause-small
returns-else-basic-eq0-clause-small c = rw (computed c, to_z-of_z w64 _ (fits_in c)) (small c)
