-- Which variable enters, among the columns below a number. Source of the least-index rule: Bland, 1977.
use Rattle.std.specs.Prelude.{ℕ, ◌<◌, length, pos, ◌<ℤ◌, ◌≤ℤ◌}
use Rattle.ta_dense.specs.Tableau.{Tableau, row_of, cell_of, non_basic_of}

-- among the columns below k, this one's variable is the least with a positive cell
pub record EntersBelow (t : Tableau) (row k column : ℕ) : Type 0 where
  pub below : column < k
  pub inside : column < length t.non_basic
  pub positive : pos 0 <ℤ cell_of (row_of t row) column
  pub least : (j : ℕ) → j < k → non_basic_of t j < non_basic_of t column → cell_of (row_of t row) j ≤ℤ pos 0

-- none of them has a positive cell
abbrev pub NoneEntersBelow : Tableau → ℕ → ℕ → Type 0
NoneEntersBelow t row k = (j : ℕ) → j < k → cell_of (row_of t row) j ≤ℤ pos 0
