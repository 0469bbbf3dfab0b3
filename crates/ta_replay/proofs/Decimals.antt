-- Values in decimal.
use Rattle.ta_replay.proofs.Common.{ℕ, ℤ, pos, negsuc, to_z, of_z, ◌^◌, ◌<◌, ◌≡◌, refl, sym, ap, subst, ◌∙◌, decimal, arith, rules, lit≤, signed_decimal, w128}
use Rattle.ta_replay.proofs.Common.{ints, to_z-of_z, Avoids, Value, FitsSigned}
use Rattle.ta_base.proofs.DecimalDigits.{decimal_avoids, decimal_same}

-- a value is a natural number below 2^127
pub natural : (z : ℤ) → Value z → (n : ℕ) × (n < 2 ^ 127) × (z ≡ pos n)
natural (pos n) is = (n, is.fits, refl)
natural (negsuc n) is = let low = is.natural in absurd (omega (arith, ints))

-- a natural number below 2^127 is a value
pub value_is : (n : ℕ) → n < 2 ^ 127 → Value (pos n)
value_is n below = record { natural = omega (arith, ints); fits = below }

-- a number is determined by its text
pub number_same : (y z : ℤ) → Value y → Value z → signed_decimal y ≡ signed_decimal z → y ≡ z
number_same y z is are e =
    let m = natural y is in
    let n = natural z are in
    let texts : decimal m.0 ≡ decimal n.0 = ap signed_decimal (sym m.2) ∙ e ∙ ap signed_decimal n.2 in
    m.2 ∙ ap pos (decimal_same (2 ^ 127) m.0 n.0 (lit≤ tt) m.1 n.1 texts) ∙ sym n.2

-- a number has no byte that is no digit
pub number_avoids : (byte : ℕ) (z : ℤ) → byte < 48 → Value z → Avoids byte (signed_decimal z)
number_avoids byte z low is =
    let n = natural z is in
    subst (λ y. Avoids byte (signed_decimal y)) (sym n.2) (decimal_avoids byte (2 ^ 127) n.0 low n.1 (lit≤ tt))

-- a value is kept in 128 bits
pub stored : (z : ℤ) → Value z → to_z w128 (of_z w128 z) ≡ z
stored (pos n) is = let below : n < 2 ^ 127 = is.fits in let f : FitsSigned w128 (pos n) = search rules in to_z-of_z w128 (pos n) f
stored (negsuc n) is = let low = is.natural in absurd (omega (arith, ints))
