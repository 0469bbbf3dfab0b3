-- The rows of the unknowns: what they mean, what they keep, and what a pivot makes of one.
use Rattle.std.specs.Prelude.{ℕ, ◌<◌, ◌≡◌, ◌⊎◌, List, pos, map, set, length, get_or, replicate, All}
use Rattle.ta_dense.specs.Tableau.{TableauRow, no_row, merged, turned}
use Rattle.ta_revised.specs.Narrow.{narrow_view, IsNarrow}
use Rattle.ta_revised.specs.declared.unknown_rows.UnknownRow.{UnknownRow}
use Rattle.ta_revised.specs.declared.unknown_rows.UnknownRow.TheVariants.{Column, Basic}

-- the row of an unknown that belongs to a column: `1*v = 0 + 1*(the column's variable)`
abbrev pub unit_row : ℕ → ℕ → ℕ → TableauRow
unit_row columns v column = record { basic = v; denominator = pos 1; constant = pos 0; cells = set (replicate columns (pos 0)) column (pos 1) }

-- what the row of an unknown means, over so many columns
abbrev pub unknown_row : ℕ → UnknownRow → TableauRow
unknown_row columns (Column v column) = unit_row columns v column
unknown_row columns (Basic r) = narrow_view r

abbrev pub unknown_rows : ℕ → List UnknownRow → List TableauRow
unknown_rows columns xs = map (unknown_row columns) xs

-- what it keeps
abbrev pub IsUnknownRow : ℕ → UnknownRow → Type 0
IsUnknownRow columns (Column v column) = column < columns
IsUnknownRow columns (Basic r) = IsNarrow columns r

abbrev pub AreUnknownRows : ℕ → List UnknownRow → Type 0
AreUnknownRows columns xs = All (IsUnknownRow columns) xs

-- whether the unknown belongs to a column
abbrev pub IsColumn : UnknownRow → Type 0
IsColumn (Column v column) = Unit {0}
IsColumn (Basic r) = ⊥

-- whether a number is in a list
abbrev pub IsIn : List ℕ → ℕ → Type 0
IsIn us u = (i : ℕ) × (i < length us) × (get_or us i 0 ≡ u)

-- the list has unknowns alone, and among them each that doesn't belong to a column
pub record ListsBasic (us : List ℕ) (xs : List UnknownRow) : Type 0 where
  pub inside : All (λ u. u < length xs) us
  pub others : (u : ℕ) (d : UnknownRow) → u < length xs → IsColumn (get_or xs u d) ⊎ IsIn us u

-- a row after a pivot: the merged row; the turned row, if it was that of the unknown that enters; or the column's, if it is that of the unknown that leaves
abbrev pub IsAfter : ℕ → ℕ → TableauRow → TableauRow → TableauRow → Type 0
IsAfter columns column chosen r r' =
    (r' ≡ merged column chosen r)
    ⊎ ((r ≡ unit_row columns r.basic column) × (r' ≡ turned r.basic column chosen))
    ⊎ ((r.basic ≡ chosen.basic) × (r' ≡ unit_row columns r.basic column))

-- those of a list, each at its place
pub record AreAfter (columns column : ℕ) (chosen : TableauRow) (rs rs' : List TableauRow) : Type 0 where
  pub count : length rs' ≡ length rs
  pub each : (u : ℕ) → u < length rs → IsAfter columns column chosen (get_or rs u no_row) (get_or rs' u no_row)
