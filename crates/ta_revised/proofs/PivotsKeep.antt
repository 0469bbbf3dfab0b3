-- a pivot keeps the rows of the unknowns
use Rattle.ta_revised.proofs.Common.{◌≡◌, inl, inr, ℕ, ◌<◌, length, map, set, arith, sym, ap, ◌∙◌, subst, ℤ, pos, neg_ℤ, ◌<ℤ◌, ◌*ℤ◌, int_div, List, length-map}
use Rattle.ta_revised.proofs.Common.{length-set, product_positive, Tableau, TableauRow, row_of, basic_of, non_basic_of, cell_of, turned, merged, factor_divisor}
use Rattle.ta_revised.proofs.Common.{EquationHolds, IsDictionaryRow, IsAssignment, variables, factors_positive, unit_row, IsAfter}
use Rattle.std.proofs.lemmas.List.{get_or-set_same}
use Rattle.ta_dense.specs.Valid.{IsDictionary}
use Rattle.ta_dense.proofs.PivotLaws.{Holds-turned}
use Rattle.ta_dense.proofs.MergedRow.{Good, Good-merged, merged_with}
use Rattle.ta_dense.proofs.Primitive.{IsPrimitive-turned, IsPrimitive-merged}
use Rattle.ta_dense.proofs.Keeps.{IsDictionary-pivoted, merged_basic}
use Rattle.ta_revised.specs.Laws.{PivotsKeepRevised}
use Rattle.ta_revised.proofs.Units.{IsDictionaryRow-unit, unit_says}

good_of : (A : ℤ → (ℕ → ℤ) → Type 0) (us : List ℕ) (r : TableauRow) → IsDictionaryRow A us r → Good A us r
good_of A us r d = record { positive = d.positive; long = d.long; holds = d.holds }

-- a merged row is true over the new non-basic variables
pub merged_after : (A : ℤ → (ℕ → ℤ) → Type 0) (n : ℕ) (t : Tableau) (row column : ℕ) (r : TableauRow) → IsDictionary A n t → row < length t.rows
    → column < length t.non_basic → pos 0 <ℤ cell_of (row_of t row) column → IsDictionaryRow A t.non_basic r →
    IsDictionaryRow A (set t.non_basic column (basic_of t row)) (merged column (row_of t row) r)
merged_after A n t row column r d h k positive k' =
    let chosen = row_of t row in
    let good = Good-merged A t.non_basic chosen r column k positive (good_of A t.non_basic chosen (d.rows row h)) (good_of A t.non_basic r k') in
    let p : pos 0 <ℤ (merged_with (cell_of r column) column (row_of t row) r).denominator =
    product_positive (int_div (cell_of chosen column) (pos (factor_divisor (cell_of chosen column) (cell_of r column)))) r.denominator
    (factors_positive (cell_of chosen column) (cell_of r column) positive).1 k'.positive in
    record { positive = good.positive; long = good.long; primitive = IsPrimitive-merged column chosen r p k'.primitive; holds = good.holds }

-- the chosen row, turned for a variable that has the value of the column's
pub turned_after : (A : ℤ → (ℕ → ℤ) → Type 0) (n : ℕ) (t : Tableau) (row column v : ℕ) → IsDictionary A n t → row < length t.rows
    → column < length t.non_basic → pos 0 <ℤ cell_of (row_of t row) column
    → ((scale : ℤ) (value : ℕ → ℤ) → A scale value → value v ≡ value (non_basic_of t column)) →
    IsDictionaryRow A (set t.non_basic column (basic_of t row)) (turned v column (row_of t row))
turned_after A n t row column v d h k positive same =
    let chosen = row_of t row in
    let long : length (row_of t row).cells ≡ length t.non_basic = (d.rows row h).long in
    let wide : column < length (row_of t row).cells = omega arith in
    record {
      positive = positive;
      long = length-set (map neg_ℤ chosen.cells) column chosen.denominator ∙ length-map chosen.cells neg_ℤ ∙ long
          ∙ sym (length-set t.non_basic column (basic_of t row));
      primitive = IsPrimitive-turned column v chosen wide (d.rows row h).primitive;
      holds = λ scale value a.
          ap (λ (z : ℤ). cell_of chosen column *ℤ z) (same scale value a)
          ∙ Holds-turned t.non_basic chosen column scale value wide (sym long) ((d.rows row h).holds scale value a);
    }

-- each row after a pivot
pub row_after : (A : ℤ → (ℕ → ℤ) → Type 0) (n : ℕ) (t : Tableau) (row column : ℕ) (r r' : TableauRow) → IsDictionary A n t → row < length t.rows
    → column < length t.non_basic → pos 0 <ℤ cell_of (row_of t row) column → IsDictionaryRow A t.non_basic r
    → IsAfter (length t.non_basic) column (row_of t row) r r' →
    IsDictionaryRow A (set t.non_basic column (basic_of t row)) r' × (r'.basic ≡ r.basic)
row_after A n t row column r r' d h k positive good (inl e) = (
  subst (IsDictionaryRow A (set t.non_basic column (basic_of t row))) (sym e) (merged_after A n t row column r d h k positive good),
  ap (λ (x : TableauRow). x.basic) e ∙ merged_basic column (row_of t row) r,
)
row_after A n t row column r r' d h k positive good (inr (inl e)) = (
  subst (IsDictionaryRow A (set t.non_basic column (basic_of t row))) (sym e.1) (turned_after A n t row column r.basic d h k positive
      (λ scale value a. unit_says t.non_basic r.basic column scale value k
      (subst (λ (x : TableauRow). EquationHolds t.non_basic x scale value) e.0 (good.holds scale value a)))),
  ap (λ (x : TableauRow). x.basic) e.1,
)
row_after A n t row column r r' d h k positive good (inr (inr e)) =
    let long = length-set t.non_basic column (basic_of t row) in (
      subst (IsDictionaryRow A (set t.non_basic column (basic_of t row))) (ap (λ (m : ℕ). unit_row m r.basic column) long ∙ sym e.1)
          (IsDictionaryRow-unit A (set t.non_basic column (basic_of t row)) r.basic column (omega arith)
          (get_or-set_same t.non_basic column (basic_of t row) 0 k ∙ sym e.0)),
      ap (λ (x : TableauRow). x.basic) e.1,
    )

pub pivots_keep : PivotsKeepRevised
pivots_keep s t d d' row column keeps h k positive columns after =
    let count = after.count in
    let own = keeps.count in
    let each = λ (u : ℕ) (below : u < s.unknowns).
    row_after (IsAssignment s) (variables s) t row column (row_of d u) (row_of d' u) keeps.dictionary h k positive (keeps.rows u below)
    (after.each u (omega arith)) in
    record {
      dictionary = IsDictionary-pivoted (IsAssignment s) (variables s) t row column keeps.dictionary h k positive;
      non_basic = columns ∙ ap (λ (us : List ℕ). set us column (basic_of t row)) keeps.non_basic;
      count = count ∙ own;
      rows = λ u below. (each u below).0;
      named = λ u below. (each u below).1 ∙ keeps.named u below;
    }
