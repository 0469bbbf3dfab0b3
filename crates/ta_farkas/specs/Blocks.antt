-- The sums of 64 columns, which the check of a Farkas certificate forms side by side.
use Rattle.std.specs.Prelude.{ℕ, ◌+◌, ◌<◌, ◌≡◌, List, get_or, Option, Some, None, SomeIff, ℤ, ◌+ℤ◌}
use Rattle.ta_linear.specs.Numbers.{InRange}
use Rattle.ta_linear.specs.declared.row.System.{System}
use Rattle.ta_farkas.specs.Columns.{column_sum, ColumnStays}

-- a sum in range with a product added: there is a new sum exactly if the product and the new sum are in range; without a sum there is none
abbrev pub IsAdded : Option ℤ → ℤ → Option ℤ → Type 0
IsAdded None product new_sum = new_sum ≡ None
IsAdded (Some sum) product new_sum = InRange sum → SomeIff new_sum (InRange product × InRange (sum +ℤ product)) (sum +ℤ product)

-- the sums of the 64 columns from this one on; each is there exactly if its column stays in range
abbrev pub AreSums : System → List (ℕ × ℤ) → ℕ → List (Option ℤ) → Type 0
AreSums s ts first sums =
    (j : ℕ) → j < 64 → first + j < s.unknowns
    → SomeIff (get_or sums j None) (ColumnStays s ts (first + j)) (column_sum s ts (first + j))
