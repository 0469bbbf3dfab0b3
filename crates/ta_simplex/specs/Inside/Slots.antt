-- Multipliers as a list with a place for each row.
use Rattle.std.specs.Prelude.{ℕ, ◌-◌, ◌<◌, List, ℤ, pos, ◌≤ℤ◌, ◌≡◌, length, get_or, set, nat_lt, if◌then◌else◌}
use Rattle.ta_linear.specs.Numbers.{InRange}
use Rattle.ta_linear.specs.Terms.{coefficient, IsNormal}
use Rattle.ta_linear.specs.Leaf.{AreMultipliers}
use Rattle.ta_dense.specs.Tableau.{Tableau}
use Rattle.ta_simplex.specs.Refuted.{GivesMultipliers}

abbrev pub slot : List ℤ → ℕ → ℤ
slot ms k = get_or ms k (pos 0)

-- a number put at the row of a slack; a variable other than a slack has no row
abbrev pub put : ℕ → List ℤ → ℕ → ℤ → List ℤ
put unknowns ms variable m = if nat_lt variable unknowns then ms else set ms (variable - unknowns) m

-- numbers in range, none of them negative
pub record AreNatural (ms : List ℤ) : Type 0 where
  pub natural : (k : ℕ) → pos 0 ≤ℤ slot ms k
  pub fits : (k : ℕ) → InRange (slot ms k)

-- the multipliers of each row, whether 0 or not
pub record FillSlots (unknowns count : ℕ) (t : Tableau) (row : ℕ) (ms : List ℤ) : Type 0 where
  pub long : length ms ≡ count
  pub natural : AreNatural ms
  pub gives : GivesMultipliers unknowns count t row (slot ms)

-- the multipliers that are not 0, by rising row
pub record ListsSlots (ms : List ℤ) (count : ℕ) (ts : List (ℕ × ℤ)) : Type 0 where
  pub normal : IsNormal 0 count ts
  pub multipliers : AreMultipliers 0 count ts
  pub coefficients : (k : ℕ) → k < count → coefficient ts k ≡ slot ms k
