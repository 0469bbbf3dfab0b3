-- Bounds on the numbers of rows, and which products they keep within 16 bits.
use Rattle.std.specs.Prelude.{ℕ, ◌<◌, ◌≤◌, ◌^◌, List, ℤ, pos, ◌-ℤ◌, ◌*ℤ◌, unsigned_abs, length, get_or, All, FitsSigned}
use Rattle.std.specs.Int.{w16}
use Rattle.ta_dense.specs.Tableau.{TableauRow}

-- no absolute value of a list is above a number
abbrev pub AreBounded : ℕ → List ℤ → Type 0
AreBounded bound xs = All (λ x. unsigned_abs x ≤ bound) xs

-- every absolute value of a list is below 2^31
abbrev pub AreSmall : List ℤ → Type 0
AreSmall xs = All (λ x. unsigned_abs x < 2 ^ 15) xs

-- a bound of a row: no absolute value of its numbers is above it
pub record IsBound (bound : ℕ) (r : TableauRow) : Type 0 where
  pub denominator : unsigned_abs r.denominator ≤ bound
  pub constant : unsigned_abs r.constant ≤ bound
  pub cells : AreBounded bound r.cells

-- the products and the difference of one place fit 16 bits
pub record CombinesIn16 (p a q c : ℤ) : Type 0 where
  pub left : FitsSigned w16 (p *ℤ a)
  pub right : FitsSigned w16 (q *ℤ c)
  pub difference : FitsSigned w16 (p *ℤ a -ℤ q *ℤ c)

-- those of each place
abbrev pub AllCombineIn16 : ℤ → ℤ → List ℤ → List ℤ → Type 0
AllCombineIn16 p q xs cs = (j : ℕ) → j < length xs → CombinesIn16 p (get_or xs j (pos 0)) q (get_or cs j (pos 0))
