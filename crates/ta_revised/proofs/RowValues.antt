-- the value of a system's row, term by term
use Rattle.ta_revised.proofs.Common.{ℕ, ℤ, ◌<◌, ◌≡◌, ◌≤◌, ◌+◌, ◌*◌, ◌^◌, ◌*ℤ◌, ◌+ℤ◌, FitsSigned, IsSomeAnd, List, Option, arith, drop, get_or, length, pos}
use Rattle.ta_revised.proofs.Common.{refl, slice_get, subst, sym, unsigned_abs, mul-le-mul_left, fits_signed_from_abs, ints, to_z-of_z, unsigned_abs-mul}
use Rattle.ta_revised.proofs.Common.{drop_more, slice_get-get_or, w32, w64, IsNormal-le, IsNormal, terms_value, weight_of, parts_value}
use Rattle.std.proofs.Common.{of_z, to_z}

-- what a row's sum keeps: with what is left it is the row's value, and it is small
pub record RowSumming (scale : ℕ) (values : List ℤ) (r : ℤ × List (ℕ × ℤ)) (sum : ℤ) (left : List (ℕ × ℤ)) : Type 0 where
  pub place : ℕ
  pub normal : IsNormal place (length values) left
  pub value : sum +ℤ terms_value (λ u. get_or values u (pos 0)) left ≡ parts_value scale values r
  pub small : unsigned_abs sum + 2 ^ 46 * weight_of left ≤ 2 ^ 62

-- a term of a row, its unknown's value, and their product
pub record SmallTerm (values : List ℤ) (t : ℕ × ℤ) : Type 0 where
  pub below : t.0 < length values
  pub factor : unsigned_abs t.1 ≤ 2 ^ 16
  pub number : unsigned_abs (get_or values t.0 (pos 0)) ≤ 2 ^ 46
  pub product : unsigned_abs (t.1 *ℤ get_or values t.0 (pos 0)) ≤ 2 ^ 46 * unsigned_abs t.1

-- the next term is small
pub small_term : (scale : ℕ) (values : List ℤ) (r : ℤ × List (ℕ × ℤ)) (sum : ℤ) (xs : List (ℕ × ℤ)) (i : ℕ) (d : ℕ × ℤ)
    → ((u : ℕ) → u < length values → unsigned_abs (get_or values u (pos 0)) ≤ 2 ^ 46) → RowSumming scale values r sum (drop i xs) → i < length xs
    → SmallTerm values (get_or xs i d)
small_term scale values r sum xs i d few s h =
    let m = rw (drop_more xs i d h) at s in
    let t = get_or xs i d in
    let above = IsNormal-le _ (length values) _ m.normal.2 in
    let below : t.0 < length values = omega arith in
    let number = few t.0 below in
    let small = m.small in
    record {
      below = below;
      factor = omega arith;
      number = number;
      product = rw (unsigned_abs-mul t.1 (get_or values t.0 (pos 0))) (omega (arith, mul-le-mul_left (unsigned_abs t.1) number));
    }

-- the sum with the next product
pub row_next : (scale : ℕ) (values : List ℤ) (r : ℤ × List (ℕ × ℤ)) (sum : ℤ) (xs : List (ℕ × ℤ)) (i : ℕ) (d : ℕ × ℤ)
    → SmallTerm values (get_or xs i d) → RowSumming scale values r sum (drop i xs) → i < length xs
    → RowSumming scale values r (sum +ℤ ((get_or xs i d).1 *ℤ get_or values (get_or xs i d).0 (pos 0))) (drop (i + 1) xs)
row_next scale values r sum xs i d term s h =
    let m = rw (drop_more xs i d h) at s in
    let small = m.small in
    let product = term.product in
    record {
      place = (get_or xs i d).0 + 1;
      normal = m.normal.2;
      value = omega (arith, ints, m.value);
      small = omega (arith, ints);
    }

-- the product as it is computed
pub computed_term : (values : List ℤ) (t : ℕ × ℤ) → SmallTerm values t
    → to_z w64 (of_z w64 (to_z w32 (of_z w32 t.1))) *ℤ to_z w64 (of_z w64 (get_or values t.0 (pos 0))) ≡ t.1 *ℤ get_or values t.0 (pos 0)
computed_term values t s =
    let factor = s.factor in
    let number = s.number in
    let short : FitsSigned w32 t.1 = fits_signed_from_abs w32 t.1 (omega arith) in
    let first : FitsSigned w64 t.1 = fits_signed_from_abs w64 t.1 (omega arith) in
    let second : FitsSigned w64 (get_or values t.0 (pos 0)) = fits_signed_from_abs w64 (get_or values t.0 (pos 0)) (omega arith) in
    rw (to_z-of_z w32 t.1 short, to_z-of_z w64 t.1 first, to_z-of_z w64 (get_or values t.0 (pos 0)) second) refl

-- the product fits 64 bits
pub term_fits : (values : List ℤ) (t : ℕ × ℤ) → SmallTerm values t → FitsSigned w64 (t.1 *ℤ get_or values t.0 (pos 0))
term_fits values t s =
    let factor = s.factor in
    let product = s.product in
    fits_signed_from_abs w64 _ (omega arith)

-- the sum fits 64 bits
pub sum_fits : (scale : ℕ) (values : List ℤ) (r : ℤ × List (ℕ × ℤ)) (sum : ℤ) (left : List (ℕ × ℤ)) → RowSumming scale values r sum left → FitsSigned w64 sum
sum_fits scale values r sum left s = let small = s.small in fits_signed_from_abs w64 sum (omega arith)

-- what holds for an item of a list
pub some_at : {X : Type 0} (P : X → Type 0) (xs : List X) (i : ℕ) (x d : X) → i < length xs → x ≡ get_or xs i d → P x → IsSomeAnd (slice_get xs i) P
some_at {X} P xs i x d h is p = subst (λ (o : Option X). IsSomeAnd o P) (sym (slice_get-get_or xs i d h)) (subst P is p)
