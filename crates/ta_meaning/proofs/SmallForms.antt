-- Forms with small numbers: their sums, negatives and multiples.
use Rattle.ta_meaning.proofs.Common.{◌≡◌, ℕ, ℤ, pos, negsuc, ◌^◌, ◌≤◌, ◌+ℤ◌, ◌-ℤ◌, ◌*ℤ◌, unsigned_abs, List, inl, inr, ap, ◌∙◌, arith, ints, unsigned_abs-mul}
use Rattle.ta_meaning.proofs.Common.{mul-le-mul, minus_one_times, InRange, coefficient, IsMultiple, MultipleOutOfRange, Form, Result, Ok, Err, MatchResult}
use Rattle.ta_meaning.proofs.Common.{FileFault, FitsSigned, rules, w128, ◌<◌, FormWithin, IsDifference, IsSignedSum}
use Rattle.ta_linear.specs.Forms.{IsSum}
use Rattle.ta_syntax.specs.declared.sums.Sign.TheVariants as sign
use Rattle.ta_syntax.specs.declared.fault.FileFault.TheVariants as fault

small_times : (z x : ℤ) → unsigned_abs z ≤ 1000000000 → unsigned_abs x ≤ 2 ^ 94 → InRange (z *ℤ x)
small_times z x h k = rw (unsigned_abs-mul z x) (omega (arith, mul-le-mul h k))

-- no number of a product of a small form leaves the range
pub product_stays : (a : Form) (z : ℤ) → FormWithin (2 ^ 94) a → unsigned_abs z ≤ 1000000000 → MultipleOutOfRange a z → ⊥
product_stays a z w h (inl leaves) = leaves (small_times z a.constant h w.constant)
product_stays a z w h (inr leaves) = leaves.1 (small_times z (coefficient a.terms leaves.0) h (w.coefficients leaves.0))

pub within_more : (p q : ℕ) (a : Form) → p ≤ q → FormWithin p a → FormWithin q a
within_more p q a h w = record { constant = omega (arith, w.constant); coefficients = λ x. omega (arith, w.coefficients x) }

pub plus_negative : (s a m b : Form) → IsSum s a m → IsMultiple m b (negsuc 0) → IsSignedSum s a sign.Minus b
plus_negative s a m b is times = record {
  constant = is.constant ∙ ap (λ (z : ℤ). a.constant +ℤ z) (times.constant ∙ minus_one_times b.constant);
  coefficients = λ x. is.coefficients x ∙ ap (λ (z : ℤ). coefficient a.terms x +ℤ z) (times.coefficients x ∙ minus_one_times (coefficient b.terms x));
}

-- a form plus the negative of another
pub minus_answers : (r : Result Form FileFault) (a b m : Form) → IsMultiple m b (negsuc 0) → MatchResult r (λ sum. IsSum sum a m) (λ e. e ≡ fault.Memory)
    → MatchResult r (λ sum. IsSignedSum sum a sign.Minus b) (λ e. e ≡ fault.Memory)
minus_answers (Ok sum) a b m times is = plus_negative sum a m b is times
minus_answers (Err f) a b m times is = is

plus_less : (a b : ℤ) → (a +ℤ (pos 0 -ℤ b)) ≡ (a -ℤ b)
plus_less a b = omega (arith, ints)

less_again : (u a b z : ℤ) → u ≡ (a +ℤ (pos 0 -ℤ b)) → (u -ℤ z) ≡ ((a -ℤ b) -ℤ z)
less_again u a b z e = omega (arith, ints, e)

-- the constant of such a difference stays in range
pub shifted_fits : (u a b z : ℤ) → u ≡ (a +ℤ (pos 0 -ℤ b)) → unsigned_abs a ≤ 2 ^ 93 → unsigned_abs b ≤ 2 ^ 93 → unsigned_abs z ≤ 1 → FitsSigned w128 (u -ℤ z)
shifted_fits u a b z e h k l = let small : unsigned_abs (u -ℤ z) < 2 ^ 127 = omega (arith, ints, e) in search rules

-- a form less another, and less a number
pub shifted_difference : (unshifted greater less form : Form) (z : ℤ) → IsSignedSum unshifted greater sign.Minus less → form.terms ≡ unshifted.terms
    → form.constant ≡ (unshifted.constant -ℤ z) → IsDifference form greater less z
shifted_difference unshifted greater less form z is terms constant = record {
  constant = constant ∙ less_again unshifted.constant greater.constant less.constant z is.constant;
  coefficients = λ x. ap (λ (ts : List (ℕ × ℤ)). coefficient ts x) terms ∙ is.coefficients x
      ∙ plus_less (coefficient greater.terms x) (coefficient less.terms x);
}
