-- the greatest common divisor where one of the two divides the other, or one is 1, or one is 2
use Rattle.ta_revised.proofs.Common.{◌≡◌, ℕ, ◌<◌, ◌%◌, inl, inr, arith, sym, subst, IsGcd, ◌∣◌, one-dvd, cases_eq, dvd_refl, dvd_of_mod-eq-zero, IsGcd-swap}
use Rattle.ta_revised.proofs.Common.{IsGcd-from_mod, gcd_of, gcd_of_is}

-- what divides a number is their divisor
pub gcd_of-dvd : (d x : ℕ) → d ∣ x → d ≡ gcd_of d x
gcd_of-dvd d x h = gcd_of_is d x d (dvd_refl d, h, λ k a b. a)

pub gcd_of-one_right : (d x : ℕ) → x ≡ 1 → 1 ≡ gcd_of d x
gcd_of-one_right d x e = subst (λ (y : ℕ). 1 ≡ gcd_of d y) (sym e) (gcd_of_is d 1 1 (one-dvd d, dvd_refl 1, λ k a b. b))

two_odd : (x : ℕ) → x % 2 ≡ 1 → 1 ≡ gcd_of 2 x
two_odd x e = gcd_of_is 2 x 1 (IsGcd-swap x 2 1 (IsGcd-from_mod x 2 1 (subst (λ (r : ℕ). IsGcd 2 r 1) (sym e) (one-dvd 2, dvd_refl 1, λ k a b. b))))

pub halved_odd : (d x : ℕ) → 0 < d → d < 3 → x % 2 ≡ 1 → 1 ≡ gcd_of d x
halved_odd d x some few odd =
    elim (cases_eq d 1) [
      | inl one ↦ subst (λ (n : ℕ). 1 ≡ gcd_of n x) (sym one) (gcd_of-dvd 1 x (one-dvd x))
      | inr more ↦ (let two : d ≡ 2 = omega arith in subst (λ (n : ℕ). 1 ≡ gcd_of n x) (sym two) (two_odd x odd))
    ]

pub halved_even : (d x : ℕ) → 0 < d → d < 3 → x % 2 ≡ 0 → d ≡ gcd_of d x
halved_even d x some few even =
    elim (cases_eq d 1) [
      | inl one ↦ gcd_of-dvd d x (subst (λ (n : ℕ). n ∣ x) (sym one) (one-dvd x))
      | inr more ↦ (let two : d ≡ 2 = omega arith in gcd_of-dvd d x (subst (λ (n : ℕ). n ∣ x) (sym two) (dvd_of_mod-eq-zero 2 even)))
    ]
