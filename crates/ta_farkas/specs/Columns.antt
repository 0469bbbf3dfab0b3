-- The columns of a system, as the check of a Farkas certificate adds them up.
use Rattle.std.specs.Prelude.{ℕ, ◌≤◌, List, ℤ, pos, slice_get, Option, nat_lt, if◌then◌else◌}
use Rattle.ta_linear.specs.Sums.{StaysInRange}
use Rattle.ta_linear.specs.Leaf.{coefficient_in, constant_in, weighted}
use Rattle.ta_linear.specs.declared.row.Row.{Row}
use Rattle.ta_linear.specs.declared.row.System.{System}

-- a row's part in a column: the coefficient of an unknown, and the constant in any column after the unknowns
abbrev pub part_in : ℕ → ℕ → Option Row → ℤ
part_in unknowns column row = if nat_lt column unknowns then coefficient_in column row else constant_in row

-- the part of the row with this number
abbrev pub entry : System → ℕ → ℕ → ℤ
entry s column row = part_in s.unknowns column (slice_get s.rows row)

-- the sum of the multiplied rows in a column
abbrev pub column_sum : System → List (ℕ × ℤ) → ℕ → ℤ
column_sum s ts column = weighted (part_in s.unknowns column) s.rows ts

-- the products of the multipliers with the rows' parts, and their partial sums in the order of the list, are in range
abbrev pub ColumnStays : System → List (ℕ × ℤ) → ℕ → Type 0
ColumnStays s ts column = StaysInRange (entry s column) (pos 0) ts

-- every column stays in range, that of the constant among them
abbrev pub CheckStays : System → List (ℕ × ℤ) → Type 0
CheckStays s ts = (column : ℕ) → column ≤ s.unknowns → ColumnStays s ts column
