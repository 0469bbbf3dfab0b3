use Rattle.ta_dense.proofs.Common.{◌≡◌, ℕ, zero, suc, ◌<◌, List, [], ◌∷◌, length, get_or, arith, sym, ap, ◌∙◌, subst, pos, ◌<ℤ◌, range_with_len, ints, All-map}
use Rattle.ta_dense.proofs.Common.{length-range_with_len, InRange, coefficient, IsNormal, AllBelow, Row, coefficient-fits, slack_row_of, length-map, get_or-map}
use Rattle.ta_dense.proofs.Common.{no_row, cell_of, pivoted_rows, IsProper, OthersMergeBelow, row_view, views, view_at, AreProper, DenseRow}
use Rattle.ta_dense.proofs.ProperFacts.{proper_pivoted}

pub proper_read : (n : ℕ) (rows : List DenseRow) (i : ℕ) (r : DenseRow) → AreProper n rows → i < length rows → r ≡ get_or rows i r → IsProper n (row_view r)
proper_read n rows i r all h e =
    let same : row_view r ≡ get_or (views rows) i no_row = ap row_view e ∙ sym (get_or-map row_view rows i r no_row h) in
    subst (IsProper n) (sym same) (all i h)

pub others_of_views : (row column : ℕ) (rows : List DenseRow) → OthersMergeBelow row column (view_at rows row) (views rows) (length rows)
    → OthersMergeBelow row column (view_at rows row) (views rows) (length (views rows))
others_of_views row column rows h = subst (OthersMergeBelow row column (view_at rows row) (views rows)) (sym (length-map rows row_view)) h

-- the rows after a pivot are proper
pub proper_after_pivot : (n row column entering : ℕ) (rows new : List DenseRow) → AreProper n rows → row < length rows → column < n
    → pos 0 <ℤ cell_of (view_at rows row) column →
    OthersMergeBelow row column (view_at rows row) (views rows) (length rows) → views new ≡ pivoted_rows (views rows) row column entering
    → length new ≡ length rows → AreProper n new
proper_after_pivot n row column entering rows new all h k positive others value long i below =
    let l1 = length-map rows row_view in
    rw value (proper_pivoted n row column entering (views rows) (omega arith) k positive (λ j inside. all j (omega arith))
    (others_of_views row column rows others) i (omega arith))

pub terms_at : (n : ℕ) (rs : List Row) (i : ℕ) (d : Row) → AllBelow n rs → i < length rs → IsNormal 0 n (get_or rs i d).form.terms
terms_at n [] i d all h = absurd (omega arith)
terms_at n (r ∷ rs) zero d all h = all.0
terms_at n (r ∷ rs) (suc i) d all h = terms_at n rs i d all.1 (omega arith)

pub IsProper-slack : (n v : ℕ) (r : Row) → IsNormal 0 n r.form.terms → IsProper n (slack_row_of n v r)
IsProper-slack n v r normal = record {
  positive = omega (arith, ints);
  denominator = omega arith;
  constant = r.form.constant_fits;
  cells = All-map InRange (coefficient r.form.terms) (range_with_len 0 n) (λ k d h. coefficient-fits 0 n r.form.terms (get_or (range_with_len 0 n) k d) normal);
  long = length-map (range_with_len 0 n) (coefficient r.form.terms) ∙ length-range_with_len 0 n;
}
