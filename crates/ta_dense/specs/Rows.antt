-- The rows of the code, and what they mean.
use Rattle.std.specs.Prelude.{ℕ, List, ◌<◌, map, length, get_or}
use Rattle.ta_dense.specs.Tableau.{TableauRow, no_row}
use Rattle.ta_dense.specs.Merge.{IsProper}
use Rattle.ta_dense.specs.declared.rows.DenseRow.{DenseRow}

-- what a row of the code means
abbrev pub row_view : DenseRow → TableauRow
row_view r = record { basic = r.basic; denominator = r.denominator; constant = r.constant; cells = r.cells.items }

abbrev pub views : List DenseRow → List TableauRow
views rows = map row_view rows

-- every row is proper
abbrev pub AreProper : ℕ → List DenseRow → Type 0
AreProper columns rows = (i : ℕ) → i < length rows → IsProper columns (get_or (views rows) i no_row)

abbrev pub view_at : List DenseRow → ℕ → TableauRow
view_at rows row = get_or (views rows) row no_row

abbrev pub columns_of : List DenseRow → ℕ → ℕ
columns_of rows row = length (view_at rows row).cells
