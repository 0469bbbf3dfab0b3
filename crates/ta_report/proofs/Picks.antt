-- Picked items of a list, and the entries for them.
use Rattle.ta_report.proofs.Common.{ℕ, zero, suc, ◌+◌, ◌≡◌, Bool, true, false, List, [], ◌∷◌, length, refl, sym, subst, ap, ◌∙◌, arith, if◌then◌else◌}
use Rattle.ta_report.proofs.Common.{slice_get, Option, Some, None, AllByRecursion, each_at, ◌==◌, eqb-true, eq-eqb, Pick, All, One, entry_of, first_picked}
use Rattle.ta_report.proofs.Common.{listed, picked}

listed_at : {A : Type 0} (o : Option A) (j : ℕ) (x : A) → slice_get (listed o) j ≡ Some x → (j ≡ 0) × (o ≡ Some x)
listed_at None j x at = cc
listed_at (Some y) zero x at = (refl, at)
listed_at (Some y) (suc j) x at = cc

-- a picked item stands in the list, behind the first
pub picked_there : {A : Type 0} (pick : Pick) (xs : List A) (j : ℕ) (x : A) → slice_get (picked pick xs) j ≡ Some x
    → slice_get xs (first_picked pick + j) ≡ Some x
picked_there All xs j x at = let here : j ≡ 0 + j = omega arith in subst (λ (n : ℕ). slice_get xs n ≡ Some x) here at
picked_there (One k) xs j x at =
    let is = listed_at (slice_get xs k) j x at in
    let here : k ≡ k + j = omega (arith, is.0) in
    subst (λ (n : ℕ). slice_get xs n ≡ Some x) here is.1

-- its entry
pub entry_there : {A B : Type 0} (pick : Pick) (xs : List A) (ys : List B) (j : ℕ) (x : A) (y : B) → slice_get (picked pick xs) j ≡ Some x
    → slice_get ys j ≡ Some y → entry_of pick ys (first_picked pick + j) ≡ Some y
entry_there All xs ys j x y at is = let here : j ≡ 0 + j = omega arith in subst (λ (n : ℕ). slice_get ys n ≡ Some y) here is
entry_there (One k) xs ys j x y at is =
    let first = (listed_at (slice_get xs k) j x at).0 in
    let same : k + j ≡ k = omega (arith, first) in
    ap (λ (b : Bool). if b then slice_get ys 0 else None) (eq-eqb (k + j) k same) ∙ subst (λ (n : ℕ). slice_get ys n ≡ Some y) first is

-- an item with an entry is picked
pub record PickedAt {A B : Type 0} (pick : Pick) (xs : List A) (ys : List B) (number : ℕ) (x : A) (y : B) : Type 0 where
  pub place : ℕ
  pub item : slice_get (picked pick xs) place ≡ Some x
  pub entry : slice_get ys place ≡ Some y
  pub number_is : first_picked pick + place ≡ number

entry_one : {B : Type 0} (ys : List B) (b : Bool) (n k : ℕ) (y : B) → (n == k) ≡ b → (if b then slice_get ys 0 else None) ≡ Some y → (n ≡ k)
    × (slice_get ys 0 ≡ Some y)
entry_one ys true n k y same is = (eqb-true n k same, is)
entry_one ys false n k y same is = cc

pub entry_picked : {A B : Type 0} (pick : Pick) (xs : List A) (ys : List B) (number : ℕ) (x : A) (y : B) → slice_get xs number ≡ Some x
    → entry_of pick ys number ≡ Some y → PickedAt pick xs ys number x y
entry_picked All xs ys number x y at is = record { place = number; item = at; entry = is; number_is = omega arith }
entry_picked (One k) xs ys number x y at is =
    let parts = entry_one ys (number == k) number k y refl is in
    record {
      place = 0;
      item = ap (λ o. slice_get (listed o) 0) (subst (λ (n : ℕ). slice_get xs n ≡ Some x) parts.0 at);
      entry = parts.1;
      number_is = omega (arith, parts.0);
    }

-- an entry has a place, behind the first
pub entry_place : {B : Type 0} (pick : Pick) (ys : List B) (number : ℕ) (y : B) → entry_of pick ys number ≡ Some y → (place : ℕ) × (slice_get ys place ≡ Some y)
    × (first_picked pick + place ≡ number)
entry_place All ys number y is = (number, is, omega arith)
entry_place (One k) ys number y is =
    let parts = entry_one ys (number == k) number k y refl is in
    (0, parts.1, omega (arith, parts.0))

-- lists of one length have as many picked items
count_one : {A B : Type 0} (xs : List A) (ys : List B) (k : ℕ) → length xs ≡ length ys → length (listed (slice_get xs k)) ≡ length (listed (slice_get ys k))
count_one [] [] k e = refl
count_one [] (y ∷ ys) k e = absurd (omega arith)
count_one (x ∷ xs) [] k e = absurd (omega arith)
count_one (x ∷ xs) (y ∷ ys) zero e = refl
count_one (x ∷ xs) (y ∷ ys) (suc k) e = count_one xs ys k (omega arith)

pub picked_count : {A B : Type 0} (pick : Pick) (xs : List A) (ys : List B) → length xs ≡ length ys → length (picked pick xs) ≡ length (picked pick ys)
picked_count All xs ys e = e
picked_count (One k) xs ys e = count_one xs ys k e

-- what holds of each item holds of each picked one
each_listed : {A : Type 0} (P : A → Type 0) (xs : List A) (k : ℕ) (o : Option A) → slice_get xs k ≡ o → AllByRecursion P xs → AllByRecursion P (listed o)
each_listed P xs k None at are = tt
each_listed P xs k (Some x) at are = (each_at P xs k x are at, tt)

pub each_picked : {A : Type 0} (P : A → Type 0) (pick : Pick) (xs : List A) → AllByRecursion P xs → AllByRecursion P (picked pick xs)
each_picked P All xs are = are
each_picked P (One k) xs are = each_listed P xs k (slice_get xs k) refl are
