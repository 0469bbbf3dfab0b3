use Rattle.ta_dense.proofs.Common.{ℕ, ◌<◌, length, pos, ◌<ℤ◌, ◌≤ℤ◌, Tableau, row_of, cell_of, non_basic_of}

-- among the columns below k, this one's variable is the least with a positive cell
pub record EntersBelow (t : Tableau) (row k column : ℕ) : Type 0 where
  pub below : column < k
  pub inside : column < length t.non_basic
  pub positive : pos 0 <ℤ cell_of (row_of t row) column
  pub least : (j : ℕ) → j < k → non_basic_of t j < non_basic_of t column → cell_of (row_of t row) j ≤ℤ pos 0

abbrev pub NoneEntersBelow : Tableau → ℕ → ℕ → Type 0
NoneEntersBelow t row k = (j : ℕ) → j < k → cell_of (row_of t row) j ≤ℤ pos 0
