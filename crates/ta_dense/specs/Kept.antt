-- Pivots that are kept, and what they make of rows that are added later.
use Rattle.std.specs.Prelude.{ℕ, zero, suc, ◌-◌, ◌<◌, ◌≤◌, List, [], ◌++◌, ℤ, pos, ◌<ℤ◌, length, map, replicate, get_or}
use Rattle.ta_dense.specs.Tableau.{TableauRow, Tableau, row_of, merged}
use Rattle.ta_dense.specs.Merge.{RowsMergeBelow}

-- a pivot as it is kept: its row and column, and the numbers that the chosen row had before it
pub record KeptPivot : Type 0 where
  pub row : ℕ
  pub column : ℕ
  pub denominator : ℤ
  pub constant : ℤ
  pub cells : List ℤ

abbrev pub no_pivot : KeptPivot
no_pivot = record { row = 0; column = 0; denominator = pos 1; constant = pos 0; cells = [] }

-- the pivot with this number
abbrev pub kept_at : List KeptPivot → ℕ → KeptPivot
kept_at ks j = get_or ks j no_pivot

-- the pivot in a row and a column of a tableau
abbrev pub pivot_in : Tableau → ℕ → ℕ → KeptPivot
pivot_in t row column = record {
  row = row;
  column = column;
  denominator = (row_of t row).denominator;
  constant = (row_of t row).constant;
  cells =
      (row_of t row).cells;
}

-- a pivot of a dictionary with this many columns or fewer
pub record IsKept (columns : ℕ) (k : KeptPivot) : Type 0 where
  pub long : length k.cells ≤ columns
  pub column : k.column < length k.cells
  pub positive : pos 0 <ℤ get_or k.cells k.column (pos 0)

abbrev pub AreKept : ℕ → List KeptPivot → Type 0
AreKept columns ks = (j : ℕ) → j < length ks → IsKept columns (kept_at ks j)

-- the chosen row of a pivot where there are more columns: its cells of the later ones are 0 (other rows do not depend on its variable)
abbrev pub chosen_row : ℕ → KeptPivot → TableauRow
chosen_row columns k = record { basic = 0; denominator = k.denominator; constant = k.constant; cells = k.cells ++ replicate (columns - length k.cells) (pos 0) }

-- what a pivot makes of rows other than its chosen row
abbrev pub after_pivot : ℕ → KeptPivot → List TableauRow → List TableauRow
after_pivot columns k rows = map (merged k.column (chosen_row columns k)) rows

-- what the first j pivots make of them, one after another
abbrev pub carried : ℕ → List KeptPivot → ℕ → List TableauRow → List TableauRow
carried columns ks zero rows = rows
carried columns ks (suc j) rows = after_pivot columns (kept_at ks j) (carried columns ks j rows)

-- each product and difference of theirs in these pivots is in range
abbrev pub StayInRange : ℕ → List KeptPivot → ℕ → List TableauRow → Type 0
StayInRange columns ks count rows =
    (j : ℕ) → j < count → RowsMergeBelow (kept_at ks j).column (chosen_row columns (kept_at ks j)) (carried columns ks j rows) (length rows)
