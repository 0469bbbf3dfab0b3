-- one more coefficient is written into the cell of its unknown
use Rattle.ta_dense.proofs.Common.{◌≡◌, ◌≢◌, ℕ, ◌+◌, ◌<◌, ◌≤◌, List, [], length, set, get_or, drop, arith, ap, ◌∙◌, ℤ, pos, ◌+ℤ◌, get_or-set_other, replicate}
use Rattle.ta_dense.proofs.Common.{ints, ext_get_or, length-map, length-set, get_or-map, length-range_with_len, get_or-range_with_len, range_with_len}
use Rattle.ta_dense.proofs.Common.{replicate_zeros, get_set_added, coefficient, IsNormal, IsNormal-le, coefficients, drop_more}
use Rattle.std.proofs.Math.ListN.{drop_of_length-le}

-- what is written and what is left make up the coefficients; nothing is written from a place on
pub record Filling (n : ℕ) (all left : List (ℕ × ℤ)) (cells : List ℤ) : Type 0 where
  pub place : ℕ
  pub normal : IsNormal place n left
  pub long : length cells ≡ n
  pub sums : (x : ℕ) → (get_or cells x (pos 0) +ℤ coefficient left x) ≡ coefficient all x
  pub empty : (x : ℕ) → place ≤ x → get_or cells x (pos 0) ≡ pos 0

pub fill-inside : (n : ℕ) (all ts : List (ℕ × ℤ)) (i : ℕ) (d : ℕ × ℤ) (cells : List ℤ) → Filling n all (drop i ts) cells → i < length ts
    → (get_or ts i d).0 < length cells
fill-inside n all ts i d cells f h =
    let g = rw (drop_more ts i d h) at f in
    let below = IsNormal-le ((get_or ts i d).0 + 1) n (drop (i + 1) ts) g.normal.2 in
    omega arith

pub fill-more : (n : ℕ) (all ts : List (ℕ × ℤ)) (i : ℕ) (d : ℕ × ℤ) (cells : List ℤ) → Filling n all (drop i ts) cells → i < length ts
    → Filling n all (drop (i + 1) ts) (set cells (get_or ts i d).0 (get_or ts i d).1)
fill-more n all ts i d cells f h =
    let t = get_or ts i d in
    let g = rw (drop_more ts i d h) at f in
    let inside = fill-inside n all ts i d cells f h in
    record {
      place = t.0 + 1;
      normal = g.normal.2;
      long = length-set cells t.0 t.1 ∙ f.long;
      sums = λ x. (get_set_added cells t.0 x t.1 (coefficient (drop (i + 1) ts) x) inside (f.empty t.0 g.normal.0) ∙ g.sums x);
      empty = λ x above. (let apart : x ≢ (get_or ts i d).0 = omega arith in get_or-set_other cells t.0 x t.1 (pos 0) apart
          ∙ f.empty x (let low = g.normal.0 in omega arith));
    }

pub fill-end : (n : ℕ) (ts : List (ℕ × ℤ)) (i : ℕ) (cells : List ℤ) → Filling n ts (drop i ts) cells → length ts ≤ i → cells ≡ coefficients n ts
fill-end n ts i cells f h =
    let none : drop i ts ≡ [] = drop_of_length-le ts h in
    let wide = length-map (range_with_len 0 n) (coefficient ts) in
    let long = length-range_with_len 0 n in
    ext_get_or (pos 0) cells (coefficients n ts) (omega arith)
    (λ x below.
    (let sums = rw none at (f.sums x) in
    let place = get_or-range_with_len 0 n x 0 (omega arith) in
    let at = get_or-map (coefficient ts) (range_with_len 0 n) x 0 (pos 0) (omega arith) in
    let same : coefficient ts (get_or (range_with_len 0 n) x 0) ≡ coefficient ts x = ap (coefficient ts) (place ∙ omega arith) in
    omega (arith, ints, sums, at, same)))

pub fill-start : (n : ℕ) (ts : List (ℕ × ℤ)) (cells : List ℤ) → IsNormal 0 n ts → length cells ≡ n → cells ≡ replicate n (pos 0) → Filling n ts ts cells
fill-start n ts cells normal long empty = record {
  place = 0;
  normal = normal;
  long = long;
  sums = λ x. (let e = ap (λ (cs : List ℤ). get_or cs x (pos 0)) empty ∙ replicate_zeros n x in omega (arith, ints, e));
  empty = λ x _. (ap (λ (cs : List ℤ). get_or cs x (pos 0)) empty ∙ replicate_zeros n x);
}
