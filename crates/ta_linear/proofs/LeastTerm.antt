use Rattle.ta_linear.proofs.Common.{◌≡◌, ℕ, ℤ, ◌+◌, ◌<◌, ◌≤◌, ◌+ℤ◌, List, [], ◌∷◌, length, arith, ints, nat_tests, add_cond, InRange, coefficient, IsNormal}
use Rattle.ta_linear.proofs.Common.{IsLeastTerm, SomeSumOutOfRange}
use Rattle.ta_linear.proofs.TermLemmas.{coefficient-below, IsNormal-le}

-- the first variable of the terms is above another
abbrev pub StartsAbove : ℕ → List (ℕ × ℤ) → Type 0
StartsAbove a [] = Unit {0}
StartsAbove a (t ∷ ts) = a < t.0

IsNormal-above : (a low high : ℕ) (ts : List (ℕ × ℤ)) → StartsAbove a ts → a + 1 ≤ high → IsNormal low high ts → IsNormal (a + 1) high ts
IsNormal-above a low high [] above h n = h
IsNormal-above a low high (t ∷ ts) above h n = (omega arith, n.1, n.2)

pub least-left : (xs ys : List (ℕ × ℤ)) (t : ℕ × ℤ) (ts : List (ℕ × ℤ)) → xs ≡ t ∷ ts → StartsAbove t.0 ys → IsLeastTerm xs ys t ts ys
least-left xs ys t ts e above = rw e (record {
  sums = λ x. omega (arith, ints);
  normal = λ low high left right.
      (left.0, left.1.in_range, left.2, IsNormal-above t.0 low high ys above (IsNormal-le (t.0 + 1) high ts left.2) right);
  shorter = omega arith;
})

pub least-right : (xs ys : List (ℕ × ℤ)) (t : ℕ × ℤ) (ts : List (ℕ × ℤ)) → ys ≡ t ∷ ts → StartsAbove t.0 xs → IsLeastTerm xs ys t xs ts
least-right xs ys t ts e above = rw e (record {
  sums = λ x. omega (arith, ints);
  normal = λ low high left right.
      (right.0, right.1.in_range, IsNormal-above t.0 low high xs above (IsNormal-le (t.0 + 1) high ts right.2) left, right.2);
  shorter = omega arith;
})

pub least-both : (xs ys : List (ℕ × ℤ)) (s : ℕ × ℤ) (ss : List (ℕ × ℤ)) (t : ℕ × ℤ) (ts : List (ℕ × ℤ)) → xs ≡ s ∷ ss → ys ≡ t ∷ ts → s.0 ≡ t.0 → (sum : ℤ)
    → sum ≡ (s.1 +ℤ t.1) → InRange (s.1 +ℤ t.1) → IsLeastTerm xs ys (s.0, sum) ss ts
least-both xs ys s ss t ts d e same sum is fits = rw (d, e, is) (record {
  sums = λ x. omega (arith, ints, add_cond s.0 t.0 x s.1 t.1 same);
  normal = λ low high left right. (left.0, fits, left.2, rw same right.2);
  shorter = omega arith;
})

pub leaves-both : (xs ys : List (ℕ × ℤ)) (s : ℕ × ℤ) (ss : List (ℕ × ℤ)) (t : ℕ × ℤ) (ts : List (ℕ × ℤ)) → xs ≡ s ∷ ss → ys ≡ t ∷ ts → s.0 ≡ t.0
    → (InRange (s.1 +ℤ t.1) → ⊥) → SomeSumOutOfRange xs ys
leaves-both xs ys s ss t ts d e same leaves = rw (d, e) (λ low high left right.
    let p = coefficient-below (s.0 + 1) high ss s.0 left.2 (omega arith) in
    let q = coefficient-below (t.0 + 1) high ts s.0 right.2 (omega arith) in
    let sum : (s.1 +ℤ t.1) ≡ (coefficient (s ∷ ss) s.0 +ℤ coefficient (t ∷ ts) s.0) = grind (arith, ints, nat_tests) in
    (s.0, left.0, λ h. leaves (rw sum h)))

pub StartsAbove-nil : (a : ℕ) (ts : List (ℕ × ℤ)) → length ts ≡ 0 → StartsAbove a ts
StartsAbove-nil a [] e = tt
StartsAbove-nil a (t ∷ ts) e = absurd (omega arith)
