-- masks of the rows that hold
use Rattle.ta_counter.proofs.Common.{◌≡◌, ◌⊎◌, inl, inr, ℕ, ◌+◌, ◌<◌, ◌≤◌, ◌↔◌, ℤ, Bool, true, false, List, length, arith, sym, ◌∙◌, refl, subst, slice_get}
use Rattle.ta_counter.proofs.Common.{Some, IsTrue, IsBitSet, Ok, cases_lt, false≢true, same_Some, slice_get_within, StaysInRange, RowHolds, Row, RowAnswer}
use Rattle.ta_counter.specs.Holding.{HoldsThere, MaskAt}

-- a mask names those of the first n rows that hold
abbrev pub MaskBefore : (ℕ → ℤ) → List Row → ℕ → ℕ → Type 0
MaskBefore point rows n mask = (i : ℕ) → IsBitSet mask i ↔ ((i < n) × HoldsThere point rows i)

pub this_row : (point : ℕ → ℤ) (rows : List Row) (n : ℕ) (row : Row) → slice_get rows n ≡ Some row → HoldsThere point rows n → RowHolds point row
this_row point rows n row at h = subst (RowHolds point) (same_Some h.row row (sym h.named ∙ at)) h.holds

told_true : (point : ℕ → ℤ) (row : Row) (b : Bool) → RowAnswer point row (Ok b) → b ≡ true → RowHolds point row
told_true point row true told is = told.holds
told_true point row false told is = absurd (false≢true is)

told_holds : (point : ℕ → ℤ) (row : Row) (b : Bool) → RowAnswer point row (Ok b) → RowHolds point row → b ≡ true
told_holds point row true told holds = refl
told_holds point row false told holds = absurd (told.fails holds)

-- one more row
pub mask_more : (point : ℕ → ℤ) (rows : List Row) (n mask next : ℕ) (row : Row) (b : Bool) → slice_get rows n ≡ Some row → RowAnswer point row (Ok b)
    → MaskBefore point rows n mask → ((i : ℕ) → IsBitSet next i ↔ (IsBitSet mask i ⊎ ((i ≡ n) × IsTrue b))) → MaskBefore point rows (n + 1) next
mask_more point rows n mask next row b at told before is i = (
  λ bit. elim ((is i).0 bit) [
    | inl old ↦ (let w = (before i).0 old in (let l = w.0 in omega arith, w.1))
    | inr new ↦ (
        let same = new.0 in
        (omega arith, subst (HoldsThere point rows) (sym same) (record { row = row; named = at; holds = told_true point row b told new.1 })))
  ],
  λ w. elim (cases_lt i n) [
    | inl less ↦ (is i).1 (inl ((before i).1 (less, w.1)))
    | inr more ↦ (
        let l = w.0 in
        let same : i ≡ n = omega arith in
        (is i).1 (inr (same, told_holds point row b told (this_row point rows n row at (subst (HoldsThere point rows) same w.1)))))
  ],
)

pub mask_all : (point : ℕ → ℤ) (rows : List Row) (n mask : ℕ) → length rows ≤ n → MaskBefore point rows n mask → MaskAt point rows mask
mask_all point rows n mask enough before i = (
  λ bit. ((before i).0 bit).1,
  λ h. (before i).1 (let within = slice_get_within rows i h.row h.named in (omega arith, h)),
)

pub told_stays : (point : ℕ → ℤ) (row : Row) (b : Bool) → RowAnswer point row (Ok b) → StaysInRange point row.form.constant row.form.terms
told_stays point row true told = told.stays
told_stays point row false told = told.stays
