-- The rows of a system that a Farkas certificate names by their numbers.
use Rattle.std.specs.Prelude.{ℕ, ℤ, pos, ◌<◌, ◌≤◌, ◌≡◌, List, [], length, map, slice_index_or}
use Rattle.ta_linear.specs.declared.row.System.{System}
use Rattle.ta_encode.specs.System.{LinearRow}
use Rattle.ta_encode.specs.Code.{AreRowsOf}
use Rattle.ta_encode.specs.declared.named.Named.{Named}
use Rattle.ta_encode.specs.declared.named.Named.TheVariants.{Rows, Absent}

-- the rows of some linear rows
abbrev pub HasRows : System → Type 0
HasRows system = (rows : List LinearRow) × AreRowsOf rows system.rows

-- the row with a number, which is to exist
abbrev pub row_numbered : List LinearRow → ℕ → LinearRow
row_numbered rows number = slice_index_or rows number (record { constant = pos 0; coefficients = [] })

-- the rows that a list names, in its order
abbrev pub rows_named : List LinearRow → List (ℕ × ℤ) → List LinearRow
rows_named rows ts = map (λ t. row_numbered rows t.0) ts

-- the row number at a place of a list
abbrev pub row_number_at : List (ℕ × ℤ) → ℕ → ℕ
row_number_at ts i = (slice_index_or ts i (0, pos 0)).0

-- each row that a list names is there
abbrev pub AreThere : ℕ → List (ℕ × ℤ) → Type 0
AreThere count ts = (i : ℕ) → i < length ts → row_number_at ts i < count

-- the first number of a list that no row has
pub record FirstAbsent (count : ℕ) (ts : List (ℕ × ℤ)) (number : ℕ) : Type 0 where
  pub at : ℕ
  pub below : at < length ts
  pub is : row_number_at ts at ≡ number
  pub absent : count ≤ number
  pub first : (j : ℕ) → j < at → row_number_at ts j < count

-- these are the rows that a list names, over as many unknowns; or this is the first number that no row has
abbrev pub NamesRows : List LinearRow → ℕ → List (ℕ × ℤ) → Named → Type 0
NamesRows rows unknowns ts (Rows system) = (system.unknowns ≡ unknowns) × AreRowsOf (rows_named rows ts) system.rows × AreThere (length rows) ts
NamesRows rows unknowns ts (Absent number) = FirstAbsent (length rows) ts number
