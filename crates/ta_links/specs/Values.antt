-- The numbers that cells keep.
use Rattle.std.specs.Prelude.{ℕ, zero, suc, List, [], ◌∷◌, ℤ, pos, negsuc, ◌+◌, ◌+ℤ◌, ◌==◌, ◌&&◌, map, if◌then◌else◌}
use Rattle.std.specs.List.{range_with_len}
use Rattle.ta_links.specs.declared.cell.Cell.{Cell}

-- a number at one place, and 0 at each other
abbrev pub only_at_place : ℕ → ℕ → ℤ → ℕ → ℕ → ℤ
only_at_place row column value r c = if row == r && column == c then value else pos 0

-- what a cell puts into a row and a column
abbrev pub shown : Cell → ℕ → ℕ → ℤ
shown c row column = only_at_place c.row c.column c.value row column

-- the number in a row and a column: the sum of what the cells put there; at most one of these is not 0
abbrev pub value_in : List Cell → ℕ → ℕ → ℤ
value_in [] row column = pos 0
value_in (c ∷ cs) row column = shown c row column +ℤ value_in cs row column

-- the numbers of a row
abbrev pub row_values : List Cell → ℕ → ℕ → List ℤ
row_values cells columns row = map (value_in cells row) (range_with_len 0 columns)

-- the numbers after one was written
abbrev pub written : (ℕ → ℕ → ℤ) → ℕ → ℕ → ℤ → ℕ → ℕ → ℤ
written numbers row column value r c = if row == r && column == c then value else numbers r c

-- 1 where a 0 became another number, else 0
abbrev pub fills : ℤ → ℤ → ℕ
fills (pos zero) (pos zero) = 0
fills (pos zero) (pos (suc n)) = 1
fills (pos zero) (negsuc n) = 1
fills (pos (suc m)) b = 0
fills (negsuc m) b = 0

-- how many of the first places of a row were 0 and are not any longer
abbrev pub filled_places : ℕ → (ℕ → ℤ) → (ℕ → ℤ) → ℕ
filled_places zero old new = 0
filled_places (suc n) old new = filled_places n old new + fills (old n) (new n)

-- the same for the first rows
abbrev pub filled_rows : ℕ → ℕ → (ℕ → ℕ → ℤ) → (ℕ → ℕ → ℤ) → ℕ
filled_rows zero columns old new = 0
filled_rows (suc n) columns old new = filled_rows n columns old new + filled_places columns (old n) (new n)
