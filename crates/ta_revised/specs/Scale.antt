-- A common scale of the unknowns' rows, and their values over it.
use Rattle.std.specs.Prelude.{ℕ, ℤ, ◌<◌, ◌≤◌, ◌≡◌, ◌^◌, List, pos, ◌*ℤ◌, length, get_or, unsigned_abs}
use Rattle.std.specs.Int.{◌∣◌}
use Rattle.ta_dense.specs.Tableau.{TableauRow, no_row}

-- a multiple of each row's denominator, that is not too great
pub record IsScale (scale : ℕ) (rs : List TableauRow) : Type 0 where
  pub positive : 0 < scale
  pub few : scale < 2 ^ 15
  pub multiple : (u : ℕ) → u < length rs → unsigned_abs (get_or rs u no_row).denominator ∣ scale

-- the value of each unknown where the non-basic variables are 0, times the scale
pub record AreValues (scale : ℕ) (rs : List TableauRow) (values : List ℤ) : Type 0 where
  pub count : length values ≡ length rs
  pub each : (u : ℕ) → u < length rs
      → (get_or rs u no_row).denominator *ℤ get_or values u (pos 0) ≡ pos scale *ℤ (get_or rs u no_row).constant
  pub small : (u : ℕ) → u < length rs → unsigned_abs (get_or values u (pos 0)) ≤ 2 ^ 46
