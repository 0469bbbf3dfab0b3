-- Which variable leaves and which enters, by the rows of the unknowns.
use Rattle.std.specs.Prelude.{ℕ, ℤ, ◌<◌, ◌+◌, ◌≡◌, ◌⊎◌, pos, ◌<ℤ◌, ◌≤ℤ◌, List, Option, Some, None, length, get_or, slice_get, IsSomeAnd}
use Rattle.ta_linear.specs.declared.row.System.{System}
use Rattle.ta_dense.specs.Tableau.{Tableau, TableauRow, row_of, cell_of}
use Rattle.ta_revised.specs.Scale.{AreValues}
use Rattle.ta_revised.specs.Negative.{IsLeastNegative, NoneIsNegative}
use Rattle.ta_revised.specs.Slack.{slack_row_over}

-- the least negative variable, if there is one
abbrev pub LeastIs : ℕ → System → List ℤ → Option ℕ → Type 0
LeastIs scale s values (Some v) = IsLeastNegative scale s values v
LeastIs scale s values None = NoneIsNegative scale s values

-- the same by the values that the rows have
pub record LeavingIs (scale : ℕ) (s : System) (d : Tableau) (o : Option ℕ) : Type 0 where
  pub values : List ℤ
  pub are : AreValues scale d.rows values
  pub least : LeastIs scale s values o

-- the row of a variable: an unknown's own, and a slack's as a sum of these
abbrev pub IsRowOf : ℕ → System → Tableau → ℕ → TableauRow → Type 0
IsRowOf scale s d v r =
    ((v < s.unknowns) × (r ≡ row_of d v))
    ⊎ ((k : ℕ) × (v ≡ s.unknowns + k) × IsSomeAnd (slice_get s.rows k) (λ row. r ≡ slack_row_over scale (length d.non_basic) d.rows v row))

-- the column of the least non-basic variable with a positive cell
pub record EntersBy (us : List ℕ) (r : TableauRow) (column : ℕ) : Type 0 where
  pub below : column < length us
  pub positive : pos 0 <ℤ cell_of r column
  pub least : (j : ℕ) → j < length us → get_or us j 0 < get_or us column 0 → cell_of r j ≤ℤ pos 0

-- no cell is positive
abbrev pub NoneEntersBy : List ℕ → TableauRow → Type 0
NoneEntersBy us r = (j : ℕ) → j < length us → cell_of r j ≤ℤ pos 0
