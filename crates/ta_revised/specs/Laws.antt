-- The laws of revised dictionaries: which row leaves, that a slack's row is what the dictionary has, that pivots keep them, and that modest pivots stay in
-- range.
use Rattle.std.specs.Prelude.{ℕ, ℤ, ◌<◌, ◌+◌, ◌≡◌, ◌^◌, pos, ◌<ℤ◌, List, set, length, get_or, slice_get, IsSomeAnd}
use Rattle.ta_linear.specs.declared.row.System.{System}
use Rattle.ta_dense.specs.Tableau.{Tableau, TableauRow, row_of, basic_of, cell_of, pivoted}
use Rattle.ta_dense.specs.Leaving.{Leaves, NoneLeaves}
use Rattle.ta_dense.specs.Merge.{AllMergeInRange, MergesInRange}
use Rattle.ta_revised.specs.Bounds.{IsBound}
use Rattle.ta_dense.specs.Valid.{IsDictionaryRow}
use Rattle.ta_dense.specs.Laws.{DictionaryOf}
use Rattle.ta_revised.specs.UnknownRows.{AreAfter, unit_row}
use Rattle.ta_revised.specs.Scale.{IsScale, AreValues}
use Rattle.ta_revised.specs.Slack.{slack_row_over}
use Rattle.ta_revised.specs.Negative.{IsLeastNegative, NoneIsNegative}
use Rattle.ta_revised.specs.Modest.{AreModestRows, IsModest}
use Rattle.ta_revised.specs.Valid.{IsRevised}
use Rattle.ta_revised.specs.Revised.{first_rows}
use Rattle.ta_dense.specs.Slack.{IsAssignment, slack_tableau}

-- the row of a dictionary whose variable is this one leaves
pub record LeavesAs (t : Tableau) (v : ℕ) : Type 0 where
  pub row : ℕ
  pub is : basic_of t row ≡ v
  pub leaves : Leaves t row

-- the slacks' dictionary
abbrev pub SlacksAreRevised : Type 0
SlacksAreRevised = (s : System) → IsRevised s (slack_tableau s) (first_rows s.unknowns)

-- the least negative variable leaves, and where none is negative none leaves
pub record NegativesLeave : Type 0 where
  pub least : (s : System) (t d : Tableau) (scale : ℕ) (values : List ℤ) (v : ℕ) → IsRevised s t d → IsScale scale d.rows → AreValues scale d.rows values →
      IsLeastNegative scale s values v → LeavesAs t v
  pub none : (s : System) (t d : Tableau) (scale : ℕ) (values : List ℤ) → IsRevised s t d → IsScale scale d.rows → AreValues scale d.rows values →
      NoneIsNegative scale s values → NoneLeaves t

-- the row of a basic unknown is its own, and that of a basic slack is the sum of the unknowns' rows in lowest terms
pub record RowsAreRevised : Type 0 where
  pub unknown : (s : System) (t d : Tableau) (i : ℕ) → IsRevised s t d → i < length t.rows → basic_of t i < s.unknowns → row_of t i ≡ row_of d (basic_of t i)
  pub slack : (s : System) (t d : Tableau) (scale i k : ℕ) → IsRevised s t d → IsScale scale d.rows → i < length t.rows → basic_of t i ≡ s.unknowns + k →
      IsSomeAnd (slice_get s.rows k) (λ r. row_of t i ≡ slack_row_over scale (length t.non_basic) d.rows (s.unknowns + k) r)

-- a pivot makes revised rows of revised rows
abbrev pub PivotsKeepRevised : Type 0
PivotsKeepRevised =
    (s : System) (t d d' : Tableau) (row column : ℕ) → IsRevised s t d → row < length t.rows → column < length t.non_basic
    → pos 0 <ℤ cell_of (row_of t row) column → d'.non_basic ≡ set d.non_basic column (basic_of t row)
    → AreAfter (length t.non_basic) column (row_of t row) d.rows d'.rows →
    IsRevised s (pivoted t row column) d'

-- a pivot on modest numbers stays in range
abbrev pub ModestPivotsStay : Type 0
ModestPivotsStay =
    (s : System) (t : Tableau) (row column : ℕ) → DictionaryOf s t → IsModest s.unknowns t → AreModestRows s.rows → row < length t.rows
    → column < length t.non_basic → pos 0 <ℤ cell_of (row_of t row) column →
    AllMergeInRange t row column

-- the row of a column's unknown is true
abbrev pub UnitsAreRows : Type 0
UnitsAreRows = (s : System) (us : List ℕ) (v j : ℕ) → j < length us → get_or us j 0 ≡ v → IsDictionaryRow (IsAssignment s) us (unit_row (length us) v j)

-- every row of a modest dictionary is bounded, and bounded rows are merged in range
abbrev pub ModestRowsAreBounded : Type 0
ModestRowsAreBounded =
    (s : System) (t : Tableau) → DictionaryOf s t → IsModest s.unknowns t → AreModestRows s.rows → (i : ℕ) → i < length t.rows → IsBound (2 ^ 62) (row_of t i)

abbrev pub BoundedRowsMerge : Type 0
BoundedRowsMerge = (column : ℕ) (chosen r : TableauRow) → IsBound (2 ^ 62) chosen → IsBound (2 ^ 62) r → MergesInRange column chosen r

-- all of them
pub record RevisedLaws : Type 0 where
  pub slacks : SlacksAreRevised
  pub negatives : NegativesLeave
  pub rows : RowsAreRevised
  pub pivots : PivotsKeepRevised
  pub stay : ModestPivotsStay
  pub units : UnitsAreRows
  pub bounded : ModestRowsAreBounded
  pub merge : BoundedRowsMerge
