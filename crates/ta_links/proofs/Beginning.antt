-- The cells and heads of a system's rows
use Rattle.ta_links.proofs.Common.{◌≡◌, ◌≢◌, inl, inr, ℕ, zero, suc, ℤ, pos, ◌+◌, ◌≤◌, List, [], ◌∷◌, ◌++◌, length, get_or, arith, sym, ap, ◌∙◌, refl, Option}
use Rattle.ta_links.proofs.Common.{None, zero_or_not, coefficient, Row, Cell, head_at, IsLive, Direction, IsChained, along_rows, along_columns, AreLinked}
use Rattle.ta_links.proofs.Common.{RowsShow, cases_eq, none-some}

dead : (cells : List Cell) (i : ℕ) → length cells ≡ 0 → IsLive cells i → ⊥
dead cells i none live = let h = live.inside in omega arith

empty_chained : (way : Direction) (cells : List Cell) (heads : List (Option ℕ)) → length cells ≡ 0 → ((r : ℕ) → head_at heads r ≡ None)
    → IsChained way cells heads
empty_chained way cells heads none empty = record {
  inside = λ i l. absurd (dead cells i none l);
  empty = λ q e k l at. dead cells k none l;
  first = λ q i e. absurd (none-some i (sym (empty q) ∙ e));
  next = λ i j l e. absurd (dead cells i none l);
  last = λ i l e k m at. absurd (dead cells i none l);
  begins = λ i l e. absurd (dead cells i none l);
  back = λ i h l e. absurd (dead cells i none l);
}

pub empty_linked : (cells : List Cell) (row_heads column_heads : List (Option ℕ)) → length cells ≡ 0 → ((r : ℕ) → head_at row_heads r ≡ None)
    → ((r : ℕ) → head_at column_heads r ≡ None) → AreLinked cells row_heads column_heads None
empty_linked cells row_heads column_heads none rows columns = record {
  rows = empty_chained along_rows cells row_heads none rows;
  columns = empty_chained along_columns cells column_heads none columns;
  one = λ i k l m e f. absurd (dead cells i none l);
  free = record { visited = []; visits = refl; all = λ i h out. absurd (omega arith) };
  fits = λ i l. absurd (dead cells i none l);
}

pub heads_pushed : (heads new : List (Option ℕ)) → new ≡ heads ++ None ∷ [] → ((r : ℕ) → head_at heads r ≡ None) → (r : ℕ) → head_at new r ≡ None
heads_pushed heads new e all r = ap (λ (hs : List (Option ℕ)). head_at hs r) e ∙ go heads all r where
  go : (heads : List (Option ℕ)) → ((r : ℕ) → head_at heads r ≡ None) → (r : ℕ) → head_at (heads ++ None ∷ []) r ≡ None
  go [] all zero = refl
  go [] all (suc r) = refl
  go (h ∷ hs) all zero = all 0
  go (h ∷ hs) all (suc r) = go hs (λ q. all (suc q)) r

-- a row that was written over
pub overwritten_by : (list form : List (ℕ × ℤ)) (f g : ℕ → ℤ) → ((c : ℕ) → coefficient list c ≢ pos 0 → g c ≡ coefficient form c)
    → ((c : ℕ) → coefficient list c ≡ pos 0 → g c ≡ f c) → ((c : ℕ) → coefficient list c ≡ pos 0 → f c ≡ coefficient form c) → (c : ℕ)
    → g c ≡ coefficient form c
overwritten_by list form f g listed rest was c = elim (zero_or_not (coefficient list c)) [ inl e ↦ rest c e ∙ was c e | inr ne ↦ listed c ne ]

pub shows_none : (first : ℕ) (rows : List Row) (f : ℕ → ℕ → ℤ) → ((r c : ℕ) → first ≤ r → f r c ≡ pos 0) → RowsShow first f rows first f
shows_none first rows f zero_ = record { same = λ i c b. refl; shown = λ i c d low h. absurd (omega arith); empty = λ i c h. zero_ i c h }

pub shows_more : (first : ℕ) (old : ℕ → ℕ → ℤ) (rows : List Row) (k : ℕ) (f g : ℕ → ℕ → ℤ) (ts : List (ℕ × ℤ)) → first ≤ k → RowsShow first old rows k f
    → ((d : Row) → ts ≡ (get_or rows k d).form.terms) → ((r c : ℕ) → r ≢ k → g r c ≡ f r c) →
    ((c : ℕ) → coefficient ts c ≢ pos 0 → g k c ≡ coefficient ts c) → ((c : ℕ) → coefficient ts c ≡ pos 0 → g k c ≡ f k c) → RowsShow first old rows (k + 1) g
shows_more first old rows k f g ts from s is others listed rest = record {
  same = λ i c b. others i c (λ e. omega arith) ∙ s.same i c b;
  shown = λ i c d low h. elim (cases_eq i k) [
    | inl e ↦ ap (λ (m : ℕ). g m c) e ∙ here c ∙ ap (λ (xs : List (ℕ × ℤ)). coefficient xs c) (is d)
        ∙ ap (λ (m : ℕ). coefficient (get_or rows m d).form.terms c) (sym e)
    | inr ne ↦ others i c ne ∙ s.shown i c d low (omega arith)
  ];
  empty = λ i c h. others i c (λ e. omega arith) ∙ s.empty i c (omega arith);
} where
  here : (c : ℕ) → g k c ≡ coefficient ts c
  here = overwritten_by ts ts (f k) (g k) listed rest (λ c e. s.empty k c (omega arith) ∙ sym e)
