-- what ties the greatest common divisor by Euclid's recursion to the relation IsGcd
use Rattle.std.proofs.Common.{◌*◌, ◌/◌}
use Rattle.std.proofs.Math.Nat.{dvd-add_iff_right, dvd-mul_right_of_dvd}
use Rattle.std.proofs.lemmas.Nat.{div-add-mod'}
use Rattle.std.specs.Int.{◌∣◌}
use Rattle.ta_linear.proofs.Common.{◌≡◌, ℕ, zero, suc, ◌+◌, ◌<◌, ◌%◌, arith, ap, refl, subst, sym, IsGcd, IsGcd-from_zero, IsGcd-from_mod, same_from_IsGcd}
use Rattle.ta_linear.proofs.Common.{mod_below}
use Rattle.ta_linear.specs.Gcd.{gcd_within, gcd_of}

IsGcd-gcd_within : (n a b : ℕ) → b < n → IsGcd a b (gcd_within n a b)
IsGcd-gcd_within zero a b h = absurd (omega arith)
IsGcd-gcd_within (suc n) a zero h = IsGcd-from_zero a zero refl
IsGcd-gcd_within (suc n) a (suc b) h =
    let below : a % suc b < suc b = mod_below a (suc b) (omega arith) in
    IsGcd-from_mod a (suc b) (gcd_within n (suc b) (a % suc b)) (IsGcd-gcd_within n (suc b) (a % suc b) (omega arith))

pub IsGcd-gcd_of : (a b : ℕ) → IsGcd a b (gcd_of a b)
unfolding gcd_of
IsGcd-gcd_of a b = IsGcd-gcd_within (suc b) a b (omega arith)

-- a number that IsGcd is what the function gives
pub gcd_of_is : (a b g : ℕ) → IsGcd a b g → g ≡ gcd_of a b
gcd_of_is a b g h = same_from_IsGcd a b g (gcd_of a b) h (IsGcd-gcd_of a b)

pub gcd_of-zero : (a b : ℕ) → b ≡ 0 → gcd_of a b ≡ a
gcd_of-zero a b e = sym (gcd_of_is a b a (IsGcd-from_zero a b e))

-- what divides the products with two numbers divides that with their greatest common divisor
dvd-gcd_within : (k x n a b : ℕ) → k ∣ x * a → k ∣ x * b → k ∣ x * gcd_within n a b
dvd-gcd_within k x zero a b p q = p
dvd-gcd_within k x (suc n) a zero p q = p
dvd-gcd_within k x (suc n) a (suc b) p q =
    let e : x * a ≡ x * suc b * (a / suc b) + x * (a % suc b) = omega (arith, ap (λ (m : ℕ). x * m) (div-add-mod' a (suc b))) in
    dvd-gcd_within k x n (suc b) (a % suc b) q ((dvd-add_iff_right k (dvd-mul_right_of_dvd k q (a / suc b))).1 (subst (λ (m : ℕ). k ∣ m) e p))

pub dvd-gcd_of : (k x a b : ℕ) → k ∣ x * a → k ∣ x * b → k ∣ x * gcd_of a b
unfolding gcd_of
dvd-gcd_of k x a b p q = dvd-gcd_within k x (suc b) a b p q
