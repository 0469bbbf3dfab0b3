-- Rows and tableaus whose numbers are so small that no pivot on them leaves the range.
use Rattle.std.specs.Prelude.{ℕ, ℤ, ◌<◌, ◌≤◌, ◌+◌, ◌^◌, List, [], ◌∷◌, length, unsigned_abs, All}
use Rattle.std.specs.Int.{◌∣◌}
use Rattle.ta_linear.specs.declared.row.Row.{Row}
use Rattle.ta_dense.specs.Tableau.{Tableau, row_of, basic_of}
use Rattle.ta_revised.specs.Bounds.{IsBound}

-- the sum of the coefficients' absolute values
abbrev pub weight_of : List (ℕ × ℤ) → ℕ
weight_of [] = 0
weight_of (t ∷ ts) = unsigned_abs t.1 + weight_of ts

-- the sum of all absolute values of a row is not too great
abbrev pub IsModestRow : Row → Type 0
IsModestRow r = unsigned_abs r.form.constant + weight_of r.form.terms ≤ 2 ^ 16

abbrev pub AreModestRows : List Row → Type 0
AreModestRows rs = All IsModestRow rs

-- the rows of basic unknowns have small numbers, and denominators with a small common multiple
pub record IsModest (unknowns : ℕ) (t : Tableau) : Type 0 where
  pub scale : ℕ
  pub positive : 0 < scale
  pub few : scale < 2 ^ 15
  pub multiple : (i : ℕ) → i < length t.rows → basic_of t i < unknowns → unsigned_abs (row_of t i).denominator ∣ scale
  pub small : (i : ℕ) → i < length t.rows → basic_of t i < unknowns → IsBound (2 ^ 31) (row_of t i)
