-- the column that enters among the first ones
use Rattle.ta_revised.proofs.Common.{ℕ, List, ◌<◌, length, get_or, pos, ◌<ℤ◌, ◌≤ℤ◌, TableauRow, cell_of}

-- among the columns below k, this one's variable is the least with a positive cell
pub record EntersBelow (us : List ℕ) (r : TableauRow) (k column : ℕ) : Type 0 where
  pub below : column < k
  pub inside : column < length us
  pub positive : pos 0 <ℤ cell_of r column
  pub least : (j : ℕ) → j < k → get_or us j 0 < get_or us column 0 → cell_of r j ≤ℤ pos 0

abbrev pub NoneEntersBelow : List ℕ → TableauRow → ℕ → Type 0
NoneEntersBelow us r k = (j : ℕ) → j < k → cell_of r j ≤ℤ pos 0
