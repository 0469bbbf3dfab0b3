-- sums of products that may leave the range
use Rattle.ta_walk.proofs.Common.{Bool, true, false, ◌≡◌, ◌≢◌, inl, inr, ℕ, zero, suc, ◌*◌, ◌+◌, ◌<◌, ◌≤◌, ◌^◌, ℤ, pos, negsuc, ◌+ℤ◌, ◌*ℤ◌, List, Option, Some}
use Rattle.ta_walk.proofs.Common.{None, arith, sym, ap, ◌∙◌, refl, subst, get_or, SomeIff, unsigned_abs, nat_tests, ints, InRange, fits, if_fits, with_product}
use Rattle.ta_walk.proofs.Common.{with_products}
use Rattle.std.proofs.Common.{cond, ◌&&◌}
use Rattle.std.proofs.lemmas.Bool.{cases_lt}
use Rattle.std.proofs.lemmas.Int.{unsigned_abs-mul}

pub fits_in : (z : ℤ) → InRange z → fits z ≡ true
fits_in z h = let less : unsigned_abs z < 2 ^ 127 = h in grind (arith, nat_tests)

pub fits_not : (z : ℤ) → ¬ InRange z → fits z ≡ false
fits_not z h = elim (cases_lt (unsigned_abs z) (2 ^ 127)) [
  | inl less ↦ absurd (h less)
  | inr more ↦ grind (arith, nat_tests)
]

-- a number that is given exactly where it is in range
pub if_fits_is : (o : Option ℤ) (z : ℤ) → SomeIff o (InRange z) z → o ≡ if_fits z
if_fits_is None z h = ap (λ b. cond b (Some z) None) (sym (fits_not z h))
if_fits_is (Some x) z h = ap Some h.1 ∙ ap (λ b. cond b (Some z) None) (sym (fits_in z h.0))

not_zero : (f : ℤ) → f ≢ pos 0 → 1 ≤ unsigned_abs f
not_zero (pos zero) h = absurd (h refl)
not_zero (pos (suc n)) h = omega arith
not_zero (negsuc n) h = omega arith

times_more : (d f : ℕ) → 1 ≤ f → d ≤ d * f
times_more d zero h = absurd (omega arith)
times_more d (suc f) h = omega arith

-- a multiple of a number out of range is out of range
pub multiple_out : (d f : ℤ) → ¬ InRange d → f ≢ pos 0 → None ≡ if_fits (d *ℤ f)
multiple_out d f out h =
    ap (λ b. cond b (Some (d *ℤ f)) None) (sym (fits_not (d *ℤ f) (λ within.
    out (let less : unsigned_abs (d *ℤ f) < 2 ^ 127 = within in
    let more = times_more (unsigned_abs d) (unsigned_abs f) (not_zero f h) in
    let same = unsigned_abs-mul d f in
    omega (arith, less, more, same)))))

pub with_some : (sum p q : ℤ) (o : Option ℤ) → Some q ≡ if_fits p → SomeIff o (InRange (sum +ℤ q)) (sum +ℤ q) → o ≡ with_product (Some sum) p
with_some sum p q o e h = by_fit (fits p) e (if_fits_is o (sum +ℤ q) h) where
  by_fit : (b : Bool) → Some q ≡ cond b (Some p) None → o ≡ if_fits (sum +ℤ q) → o ≡ cond (b && fits (sum +ℤ p)) (Some (sum +ℤ p)) None
  by_fit true e is = subst (λ (z : ℤ). o ≡ if_fits (sum +ℤ z)) (let same : q ≡ p = cc in same) is
  by_fit false e is = absurd (cc)

-- what isn't known stays so
pub none_stays : (c : ℕ → ℤ) (ns : List ℤ) (start : Option ℤ) (n m : ℕ) → n ≤ m → with_products c ns start n ≡ None → with_products c ns start m ≡ None
none_stays c ns start n zero le e = ap (with_products c ns start) (let z : 0 ≡ n = omega arith in z) ∙ e
none_stays c ns start n (suc m) le e = elim (cases_lt m n) [
  | inl past ↦ ap (with_products c ns start) (let same : suc m ≡ n = omega arith in same) ∙ e
  | inr within ↦ ap (λ o. with_product o (c m *ℤ get_or ns m (pos 0))) (none_stays c ns start n m within e)
]

-- one more unknown
pub one_more : (c : ℕ → ℤ) (ns : List ℤ) (start : Option ℤ) (n : ℕ) (sum : ℤ) (o : Option ℤ) → with_products c ns start n ≡ Some sum
    → o ≡ with_product (Some sum) (c n *ℤ get_or ns n (pos 0)) → with_products c ns start (n + 1) ≡ o
one_more c ns start n sum o e h =
    ap (with_products c ns start) (let same : n + 1 ≡ suc n = omega arith in same) ∙ ap (λ s. with_product s (c n *ℤ get_or ns n (pos 0))) e ∙ sym h

-- a product that is 0 adds nothing
pub with_zero : (sum p : ℤ) → InRange sum → p ≡ pos 0 → with_product (Some sum) p ≡ Some sum
with_zero sum p within none =
    let same : sum +ℤ p ≡ sum = omega (arith, ints, none) in
    let small = fits_in p (rw none (omega arith)) in
    let whole = fits_in (sum +ℤ p) (rw same within) in
    ap (λ b. cond (b && fits (sum +ℤ p)) (Some (sum +ℤ p)) None) small
    ∙ ap (λ b. cond (true && b) (Some (sum +ℤ p)) None) whole
    ∙ ap Some same

-- unknowns whose coefficients are 0 add nothing
pub skip : (c : ℕ → ℤ) (ns : List ℤ) (start : Option ℤ) (n m : ℕ) (sum : ℤ) → InRange sum → n ≤ m
    → ((u : ℕ) → n ≤ u → u < m → c u ≡ pos 0) → with_products c ns start n ≡ Some sum → with_products c ns start m ≡ Some sum
skip c ns start n zero sum within le none e = ap (with_products c ns start) (let z : 0 ≡ n = omega arith in z) ∙ e
skip c ns start n (suc m) sum within le none e = elim (cases_lt m n) [
  | inl past ↦ ap (with_products c ns start) (let same : suc m ≡ n = omega arith in same) ∙ e
  | inr behind ↦ (
      let number = get_or ns m (pos 0) in
      let nothing : (c m *ℤ number) ≡ pos 0 = rw (none m behind (omega arith)) (omega (arith, ints)) in
      ap (λ o. with_product o (c m *ℤ number)) (skip c ns start n m sum within behind (λ u low high. none u low (omega arith)) e)
      ∙ with_zero sum (c m *ℤ number) within nothing
      )
]

-- what is known is in range
pub known_fits : (p z : ℤ) → Some z ≡ if_fits p → InRange z
known_fits p z e = elim (cases_lt (unsigned_abs p) (2 ^ 127)) [
  | inl less ↦ (let t = fits_in p less in let same : z ≡ p = (let k : Some z ≡ Some p = e ∙ ap (λ b. cond b (Some p) None) t in cc) in subst InRange (sym same)
      less)
  | inr more ↦ absurd (let f = fits_not p (λ within. omega (arith, within, more)) in let k : Some z ≡ None = e ∙ ap (λ b. cond b (Some p) None) f in cc)
]

pub with_fits : (sum p z : ℤ) → Some z ≡ with_product (Some sum) p → InRange z
with_fits sum p z e = by_fit (fits p) e where
  by_fit : (b : Bool) → Some z ≡ cond (b && fits (sum +ℤ p)) (Some (sum +ℤ p)) None → InRange z
  by_fit true e = known_fits (sum +ℤ p) z e
  by_fit false e = absurd (cc)
