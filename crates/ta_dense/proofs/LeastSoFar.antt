use Rattle.ta_dense.proofs.Common.{ℕ, ◌<◌, length, pos, ◌<ℤ◌, ◌≤ℤ◌, Tableau, row_of, basic_of}

-- among the rows below k, this one's variable is the least with a negative constant
pub record LeastBelow (t : Tableau) (k row : ℕ) : Type 0 where
  pub below : row < k
  pub inside : row < length t.rows
  pub negative : (row_of t row).constant <ℤ pos 0
  pub least : (i : ℕ) → i < k → basic_of t i < basic_of t row → pos 0 ≤ℤ (row_of t i).constant

abbrev pub NoneBelow : Tableau → ℕ → Type 0
NoneBelow t k = (i : ℕ) → i < k → pos 0 ≤ℤ (row_of t i).constant
