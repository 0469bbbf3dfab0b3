-- the whole numbers that are values are one list, and so are their split and its floor
use Rattle.ta_walk.proofs.Common.{cases_order, ◌≡◌, inl, inr, ℕ, zero, suc, ◌<◌, List, [], ◌∷◌, arith, refl, sym, ◌∙◌, subst, ℤ, pos, ◌+ℤ◌, slice_get}
use Rattle.ta_walk.proofs.Common.{IsSomeAnd, ints, *ℤ_comm, cancel_positive, factor_below, some_both, Fraction, IsWholeNumber, IsWhole, IsAbove, SplitsAt}
use Rattle.ta_walk.proofs.Common.{AreNumbers}

number_once : (f : Fraction) (k n : ℤ) → IsWholeNumber k f → IsWholeNumber n f → k ≡ n
number_once f k n is are = cancel_positive f.bottom k n f.positive (*ℤ_comm f.bottom k ∙ sym is ∙ are ∙ *ℤ_comm n f.bottom)

floor_once : (f : Fraction) (k n : ℤ) → IsAbove k f → IsAbove n f → k ≡ n
floor_once f k n is are =
    let b = f.bottom in
    let low = factor_below b k (n +ℤ pos 1) f.positive (let h = is.above in let g = are.below in omega (arith, ints)) in
    let high = factor_below b n (k +ℤ pos 1) f.positive (let h = are.above in let g = is.below in omega (arith, ints)) in
    omega (arith, ints)

not_whole : (f : Fraction) (k : ℤ) → IsAbove k f → IsWhole f → ⊥
not_whole f k is whole =
    let b = f.bottom in
    let n = whole.0 in
    let e = whole.1 in
    let low = factor_below b k n f.positive (let h = is.above in omega (arith, ints)) in
    let high = factor_below b n (k +ℤ pos 1) f.positive (let h = is.below in omega (arith, ints)) in
    absurd (omega (arith, ints))

pub numbers_once : (fs : List Fraction) (ks ns : List ℤ) → AreNumbers fs ks → AreNumbers fs ns → ks ≡ ns
numbers_once [] [] [] is are = refl
numbers_once [] [] (n ∷ ns) is are = absurd are
numbers_once [] (k ∷ ks) ns is are = absurd is
numbers_once (f ∷ fs) [] ns is are = absurd is
numbers_once (f ∷ fs) (k ∷ ks) [] is are = absurd are
numbers_once (f ∷ fs) (k ∷ ks) (n ∷ ns) is are =
    let first = number_once f k n is.0 are.0 in
    let rest = numbers_once fs ks ns is.1 are.1 in
    cc

-- values that are all whole have no split
pub whole_has_no_split : (fs : List Fraction) (ks : List ℤ) (x : ℕ) (k : ℤ) → AreNumbers fs ks → SplitsAt fs x k → ⊥
whole_has_no_split fs ks x k is splits = absurd (go fs ks x is splits.here)
  where
    go : (fs : List Fraction) (ks : List ℤ) (x : ℕ) → AreNumbers fs ks → IsSomeAnd (slice_get fs x) (IsAbove k) → ⊥
    go [] ks x is here = absurd here
    go (f ∷ fs) [] x is here = absurd is
    go (f ∷ fs) (n ∷ ns) zero is here = not_whole f k here (n, is.0)
    go (f ∷ fs) (n ∷ ns) (suc x) is here = go fs ns x is.1 here

-- what two splits share
pub record SameSplit (x y : ℕ) (k n : ℤ) : Type 0 where
  pub unknown : x ≡ y
  pub floor : k ≡ n

not_before : (fs : List Fraction) (x y : ℕ) (k n : ℤ) → SplitsAt fs x k → SplitsAt fs y n → x < y → ⊥
not_before fs x y k n is are less = some_both (slice_get fs x) (IsAbove k) IsWhole ⊥ is.here (are.before x less) (λ f above whole. not_whole f k above whole)

pub split_once : (fs : List Fraction) (x y : ℕ) (k n : ℤ) → SplitsAt fs x k → SplitsAt fs y n → SameSplit x y k n
split_once fs x y k n is are =
    elim (cases_order x y) [
      | inl same ↦ record {
        unknown = same;
        floor = some_both (slice_get fs x) (IsAbove k) (IsAbove n) (k ≡ n) is.here
            (subst (λ (u : ℕ). IsSomeAnd (slice_get fs u) (IsAbove n)) (sym same) are.here) (λ f h g. floor_once f k n h g);
      }
      | inr other ↦ elim other [ inl less ↦ absurd (not_before fs x y k n is are less) | inr more ↦ absurd (not_before fs y x n k are is more) ]
    ]
