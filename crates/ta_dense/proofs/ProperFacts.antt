use Rattle.ta_dense.proofs.Common.{◌≡◌, ◌≢◌, inl, inr, ℕ, suc, ◌/◌, ◌<◌, List, ◌∷◌, length, map, set, get_or, arith, refl, sym, ap, ◌∙◌, ℤ, pos, negsuc, neg_ℤ}
use Rattle.ta_dense.proofs.Common.{◌<ℤ◌, ◌*ℤ◌, get_or-set_same, get_or-set_other, int_div, cases_eq, length-map, length-set, get_or-map, All-from_get_or}
use Rattle.ta_dense.proofs.Common.{All-get_or, All-map, All-set, div-le_self, div_exact, factor_positive, product_positive, unsigned_abs-neg, zero_or_not}
use Rattle.ta_dense.proofs.Common.{InRange, TableauRow, cell_of, combine, merged, merged_at, turned, pivoted_rows, no_row, merged_by, divisor_of, reduced}
use Rattle.ta_dense.proofs.Common.{factor_divisor, IsProper, MergesByInRange, MergesInRange, OthersMergeBelow, unsigned_abs}
use Rattle.ta_dense.proofs.PivotLaws.{length-combine, get_or-combine}
use Rattle.ta_dense.proofs.Divide.{gcd_with_divides}
use Rattle.ta_dense.proofs.ReduceFacts.{factors_positive}
use Rattle.ta_dense.proofs.MergedRow.{merged_cases, merged_with}

-- a quotient stays in range
pub in_range-div : (z : ℤ) (g : ℕ) → InRange z → InRange (int_div z (pos g))
in_range-div (pos a) g h = omega (arith, div-le_self a g)
in_range-div (negsuc a) g h = rw (unsigned_abs-neg (pos (suc a / g))) (omega (arith, div-le_self (suc a) g))

pub IsProper-reduced : (n : ℕ) (r : TableauRow) → IsProper n r → IsProper n (reduced r)
IsProper-reduced n r p =
    let divides = gcd_with_divides (r.constant ∷ r.cells) (unsigned_abs r.denominator) in
    let some = factor_positive (divisor_of r) (int_div r.denominator (pos (divisor_of r))) r.denominator (div_exact (divisor_of r) r.denominator divides.0)
    p.positive in
    record {
      positive = some.1;
      denominator = in_range-div r.denominator (divisor_of r) p.denominator;
      constant = in_range-div r.constant (divisor_of r) p.constant;
      cells = All-map InRange (λ z. int_div z (pos (divisor_of r))) r.cells (λ k d h. in_range-div (get_or r.cells k d) (divisor_of r) (p.cells k d h));
      long = length-map r.cells (λ z. int_div z (pos (divisor_of r))) ∙ p.long;
    }

pub IsProper-merged_by : (n : ℕ) (p q : ℤ) (column : ℕ) (chosen r : TableauRow) → column < n → pos 0 <ℤ p → IsProper n chosen → IsProper n r
    → MergesByInRange p q column chosen r → IsProper n (merged_by p q column chosen r)
IsProper-merged_by n p q column chosen r h positive c k m =
    let same : length r.cells ≡ length chosen.cells = k.long ∙ sym c.long in
    let long = length-combine p q r.cells chosen.cells same in
    record {
      positive = product_positive p r.denominator positive k.positive;
      denominator = m.denominator;
      constant = m.constant.difference;
      cells = All-from_get_or InRange (set (combine p q r.cells chosen.cells) column (q *ℤ chosen.denominator)) (pos 0) (λ i below.
          (let e = length-set (combine p q r.cells chosen.cells) column (q *ℤ chosen.denominator) in
          elim (cases_eq i column) [
            | inl at ↦ (let inside : column < length (combine p q r.cells chosen.cells) = (let l = k.long in omega arith) in rw
                (at, get_or-set_same (combine p q r.cells chosen.cells) column (q *ℤ chosen.denominator) (pos 0) inside) m.turned)
            | inr apart ↦ rw (
              get_or-set_other (combine p q r.cells chosen.cells) column i (q *ℤ chosen.denominator) (pos 0) apart,
              get_or-combine p q r.cells
                  chosen.cells i same,
            ) (m.cells i (let l = k.long in omega arith) apart).difference
          ]));
      long = length-set (combine p q r.cells chosen.cells) column (q *ℤ chosen.denominator) ∙ long ∙ k.long;
    }

pub merged-nonzero : (column : ℕ) (chosen r : TableauRow) → cell_of r column ≢ pos 0
    → merged column chosen r ≡ reduced (merged_with (cell_of r column) column chosen r)
merged-nonzero column chosen r ne = elim (merged_cases column chosen r) [ inl stays ↦ absurd (ne stays.0) | inr is ↦ is ]

-- what the code computes for a row whose cell is not 0
pub record Factored (column : ℕ) (chosen r : TableauRow) (p q : ℤ) : Type 0 where
  pub apart : cell_of r column ≢ pos 0
  pub first : p ≡ int_div (cell_of chosen column) (pos (factor_divisor (cell_of chosen column) (cell_of r column)))
  pub second : q ≡ int_div (cell_of r column) (pos (factor_divisor (cell_of chosen column) (cell_of r column)))

pub factored : (column : ℕ) (chosen r : TableauRow) (a c p q : ℤ) → a ≡ cell_of r column → c ≡ cell_of chosen column → a ≢ pos 0 →
    p ≡ int_div c (pos (factor_divisor c a)) → q ≡ int_div a (pos (factor_divisor c a)) → Factored column chosen r p q
factored column chosen r a c p q ea ec ne ep eq = record {
  apart = λ e. ne (ea ∙ e);
  first = ep ∙ (rw (ea, ec) refl);
  second = eq ∙ (rw (ea, ec) refl);
}

pub merged_from : (column : ℕ) (chosen r : TableauRow) (p q : ℤ) → Factored column chosen r p q
    → reduced (merged_by p q column chosen r) ≡ merged column chosen r
merged_from column chosen r p q f = rw (f.first, f.second) (sym (merged-nonzero column chosen r f.apart))

pub IsProper-self : (n : ℕ) (r : TableauRow) → IsProper n r → IsProper (length r.cells) r
IsProper-self n r p = record { positive = p.positive; denominator = p.denominator; constant = p.constant; cells = p.cells; long = refl }

pub merged-zero : (column : ℕ) (chosen r : TableauRow) → cell_of r column ≡ pos 0 → merged column chosen r ≡ r
unfolding merged
merged-zero column chosen r e = ap (λ (a : ℤ). merged_at a column chosen r) e

-- a merged row is proper where its products and differences are in range
pub IsProper-merged : (n column : ℕ) (chosen r : TableauRow) → column < n → pos 0 <ℤ cell_of chosen column → IsProper n chosen → IsProper n r
    → MergesInRange column chosen r → IsProper n (merged column chosen r)
IsProper-merged n column chosen r h positive c k m =
    elim (zero_or_not (cell_of r column)) [
      | inl zero_cell ↦ rw (merged-zero column chosen r zero_cell) k
      | inr apart ↦
          rw (merged-nonzero column chosen r apart)
          (IsProper-reduced n (merged_with (cell_of r column) column chosen r)
          (IsProper-merged_by n (int_div (cell_of chosen column) (pos (factor_divisor (cell_of chosen column) (cell_of r column))))
          (int_div (cell_of r column) (pos (factor_divisor (cell_of chosen column) (cell_of r column)))) column chosen r h
          (factors_positive (cell_of chosen column) (cell_of r column) positive).1 c k (m apart)))
    ]

pub IsProper-turned : (n column entering : ℕ) (r : TableauRow) → column < n → pos 0 <ℤ cell_of r column → IsProper n r → IsProper n (turned entering column r)
IsProper-turned n column entering r h positive p =
    let long = length-map r.cells neg_ℤ in
    record {
      positive = positive;
      denominator = All-get_or InRange r.cells column (pos 0) (let l = p.long in omega arith) p.cells;
      constant = rw (unsigned_abs-neg r.constant) p.constant;
      cells = All-set InRange (map neg_ℤ r.cells) column r.denominator p.denominator
          (All-map InRange neg_ℤ r.cells (λ k d inside. rw (unsigned_abs-neg (get_or r.cells k d)) (p.cells k d inside)));
      long = length-set (map neg_ℤ r.cells) column r.denominator ∙ long ∙ p.long;
    }

-- each row after a pivot is proper
pub proper_pivoted : (n row column entering : ℕ) (rows : List TableauRow) → row < length rows → column < n → pos 0 <ℤ cell_of (get_or rows row no_row) column →
    ((i : ℕ) → i < length rows → IsProper n (get_or rows i no_row)) → OthersMergeBelow row column (get_or rows row no_row) rows (length rows) →
    (i : ℕ) → i < length rows → IsProper n (get_or (pivoted_rows rows row column entering) i no_row)
proper_pivoted n row column entering rows h k positive all others i inside =
    let chosen = get_or rows row no_row in
    let long = length-map rows (merged column chosen) in
    elim (cases_eq i row) [
      | inl same ↦ rw (same, get_or-set_same (map (merged column chosen) rows) row (turned entering column chosen) no_row (omega arith))
          (IsProper-turned n column entering chosen k positive (all row h))
      | inr apart ↦
          rw (
            get_or-set_other (map (merged column chosen) rows) row i (turned entering column chosen) no_row apart,
            get_or-map (merged column chosen) rows i
                no_row no_row inside,
          )
          (IsProper-merged n column chosen (get_or rows i no_row) k positive (all row h) (all i inside) (others i inside inside apart))
    ]
