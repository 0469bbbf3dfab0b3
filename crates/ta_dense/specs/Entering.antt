-- Which variable enters, by the least-index rule. Source: Bland, 1977.
use Rattle.std.specs.Prelude.{ℕ, ◌<◌, pos, ◌<ℤ◌, ◌≤ℤ◌, length}
use Rattle.ta_dense.specs.Tableau.{Tableau, row_of, cell_of, non_basic_of}

-- the column of the least non-basic variable with a positive cell in a row
pub record Enters (t : Tableau) (row column : ℕ) : Type 0 where
  pub below : column < length t.non_basic
  pub positive : pos 0 <ℤ cell_of (row_of t row) column
  pub least : (j : ℕ) → j < length t.non_basic → non_basic_of t j < non_basic_of t column → cell_of (row_of t row) j ≤ℤ pos 0

-- no cell of the row is positive
abbrev pub NoneEnters : Tableau → ℕ → Type 0
NoneEnters t row = (j : ℕ) → j < length t.non_basic → cell_of (row_of t row) j ≤ℤ pos 0
