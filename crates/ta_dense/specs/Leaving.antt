-- Which basic variable leaves, by the least-index rule. Source: Bland, 1977.
use Rattle.std.specs.Prelude.{ℕ, ◌<◌, pos, ◌<ℤ◌, ◌≤ℤ◌, length}
use Rattle.ta_dense.specs.Tableau.{Tableau, row_of, basic_of}

-- the least basic variable with a negative constant leaves
pub record Leaves (t : Tableau) (row : ℕ) : Type 0 where
  pub below : row < length t.rows
  pub negative : (row_of t row).constant <ℤ pos 0
  pub least : (i : ℕ) → i < length t.rows → basic_of t i < basic_of t row → pos 0 ≤ℤ (row_of t i).constant

-- no constant is negative
abbrev pub NoneLeaves : Tableau → Type 0
NoneLeaves t = (i : ℕ) → i < length t.rows → pos 0 ≤ℤ (row_of t i).constant
