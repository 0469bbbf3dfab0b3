-- rows as numbers: when two are the same, and which are among others
use Rattle.ta_meaning.proofs.Common.{◌≡◌, ◌⊎◌, inl, inr, ℕ, zero, suc, List, [], ◌∷◌, ◌++◌, length, true, ◌&&◌, slice_get, Some, Decides, ap, refl, false≢true}
use Rattle.ta_meaning.proofs.Common.{or_cases, or_left, or_right, Decides-int_eq, Decides-and, Decides-like, slice_eq-Decides, same_Some, get_push}
use Rattle.ta_meaning.proofs.Common.{slice_get_left, Linear, same_row, has_row, get_end}
use Rattle.std.specs.Ordering.{int_eq}
use lib.Pointwise.{pointwise}
use Rattle.ta_meaning.proofs.NormalTerms.{linear_same}

pub row_decides : (a b : Linear) → Decides (same_row a b) (a ≡ b)
row_decides a b =
    Decides-like (int_eq a.constant b.constant && pointwise int_eq a.coefficients b.coefficients) (λ w. linear_same a b w.0 w.1)
    (λ e. (ap (λ (l : Linear). l.constant) e, ap (λ (l : Linear). l.coefficients) e))
    (Decides-and (int_eq a.constant b.constant) (pointwise int_eq a.coefficients b.coefficients) (Decides-int_eq a.constant b.constant)
    (slice_eq-Decides Decides-int_eq a.coefficients b.coefficients (pointwise int_eq a.coefficients b.coefficients) refl))

-- ---- rows among rows
pub has_at : (rows : List Linear) (i : ℕ) (r : Linear) → slice_get rows i ≡ Some r → has_row rows r ≡ true
has_at [] i r e = absurd (cc)
has_at (q ∷ rows) zero r e = or_left (same_row q r) (has_row rows r) ((row_decides q r).1 (same_Some q r e))
has_at (q ∷ rows) (suc i) r e = or_right (same_row q r) (has_row rows r) (has_at rows i r e)

pub at_has : (rows : List Linear) (r : Linear) → has_row rows r ≡ true → (i : ℕ) × (slice_get rows i ≡ Some r)
at_has [] r e = absurd (false≢true e)
at_has (q ∷ rows) r e = elim (or_cases (same_row q r) (has_row rows r) e) [
  | inl t ↦ (0, ap Some ((row_decides q r).0 t))
  | inr t ↦ (let w = at_has rows r t in (suc w.0, w.1))
]

pub has_left : (a b : List Linear) (r : Linear) → has_row a r ≡ true → has_row (a ++ b) r ≡ true
has_left a b r t = let w = at_has a r t in has_at (a ++ b) w.0 r (slice_get_left a b w.0 r w.1)

-- a row that is among rows with one more is the last or was there before
pub has_push : (rows : List Linear) (q r : Linear) → has_row (rows ++ q ∷ []) r ≡ true → (has_row rows r ≡ true) ⊎ (r ≡ q)
has_push rows q r t =
    let w = at_has (rows ++ q ∷ []) r t in
    elim (get_push rows q w.0 r w.1) [ inl e ↦ inl (has_at rows w.0 r e) | inr h ↦ inr h.1 ]

pub has_last : (rows : List Linear) (q : Linear) → has_row (rows ++ q ∷ []) q ≡ true
has_last rows q = has_at (rows ++ q ∷ []) (length rows) q (get_end rows q (length rows) refl)
