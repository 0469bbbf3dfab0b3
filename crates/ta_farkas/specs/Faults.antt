-- The first error of a list of multipliers that is not a Farkas certificate.
use Rattle.std.specs.Prelude.{ℕ, ◌<◌, ◌≤◌, List, ℤ, pos, ◌≤ℤ◌, ◌<ℤ◌, ◌≡◌, length, get_or}
use Rattle.ta_linear.specs.declared.row.System.{System}
use Rattle.ta_farkas.specs.Columns.{column_sum, ColumnStays}
use Rattle.ta_farkas.specs.declared.LeafFault.{LeafFault}
use Rattle.ta_farkas.specs.declared.LeafFault.TheVariants.{RowNumber, Overflow, Positive, NotNegative}

-- the row number of a place of the list
abbrev pub row_at : List (ℕ × ℤ) → ℕ → ℕ
row_at ts i = (get_or ts i (0, pos 0)).0

-- every listed row exists
abbrev pub RowsExist : System → List (ℕ × ℤ) → Type 0
RowsExist s ts = (i : ℕ) → i < length ts → row_at ts i < length s.rows

-- the first listed row that does not exist
pub record FirstMissing (s : System) (ts : List (ℕ × ℤ)) (row : ℕ) : Type 0 where
  pub at : ℕ
  pub below : at < length ts
  pub is : row_at ts at ≡ row
  pub missing : length s.rows ≤ row
  pub first : (j : ℕ) → j < at → row_at ts j < length s.rows

-- every row exists, and each column before this one stays in range and has no positive sum
pub record FineBefore (s : System) (ts : List (ℕ × ℤ)) (column : ℕ) : Type 0 where
  pub exist : RowsExist s ts
  pub in_range : (c : ℕ) → c < column → ColumnStays s ts c
  pub none_positive : (c : ℕ) → c < column → column_sum s ts c ≤ℤ pos 0

-- rows before columns, column by column, and a column's range before its sign
abbrev pub IsFirstFaultOfLeaf : System → List (ℕ × ℤ) → LeafFault → Type 0
IsFirstFaultOfLeaf s ts (RowNumber row) = FirstMissing s ts row
IsFirstFaultOfLeaf s ts (Overflow column) = (column ≤ s.unknowns) × FineBefore s ts column × (¬ (ColumnStays s ts column))
IsFirstFaultOfLeaf s ts (Positive unknown) = (unknown < s.unknowns) × FineBefore s ts unknown × ColumnStays s ts unknown × (pos 0 <ℤ column_sum s ts unknown)
IsFirstFaultOfLeaf s ts NotNegative = FineBefore s ts s.unknowns × ColumnStays s ts s.unknowns × (pos 0 ≤ℤ column_sum s ts s.unknowns)
