-- The least variable whose value is negative where the non-basic variables are 0.
use Rattle.std.specs.Prelude.{ℕ, ℤ, ◌<◌, ◌+◌, ◌≡◌, ◌⊎◌, pos, ◌<ℤ◌, ◌≤ℤ◌, List, length, get_or, slice_get, IsSomeAnd}
use Rattle.ta_linear.specs.declared.row.Row.{Row}
use Rattle.ta_linear.specs.declared.row.System.{System}
use Rattle.ta_dense.specs.Slack.{slack_at}
use Rattle.ta_dense.specs.Tableau.{Tableau}
use Rattle.ta_revised.specs.Scale.{AreValues, IsScale}

-- the value of a system's row, at values over a scale
abbrev pub row_value : ℕ → List ℤ → Row → ℤ
row_value scale values r = slack_at r (pos scale) (λ u. get_or values u (pos 0))

-- each of the first unknowns is at least 0
abbrev pub UnknownsHold : List ℤ → ℕ → Type 0
UnknownsHold values count = (u : ℕ) → u < count → pos 0 ≤ℤ get_or values u (pos 0)

-- each of the first rows is at least 0
abbrev pub RowsHold : ℕ → List ℤ → List Row → ℕ → Type 0
RowsHold scale values rows count = (i : ℕ) → i < count → IsSomeAnd (slice_get rows i) (λ r. pos 0 ≤ℤ row_value scale values r)

-- each of the first rows holds, over whatever scale the values are
abbrev pub FirstHold : System → Tableau → ℕ → Type 0
FirstHold s d count = (scale : ℕ) (values : List ℤ) → IsScale scale d.rows → AreValues scale d.rows values → RowsHold scale values s.rows count

-- an unknown is negative, and none before it
pub record IsNegativeUnknown (s : System) (values : List ℤ) (v : ℕ) : Type 0 where
  pub below : v < s.unknowns
  pub negative : get_or values v (pos 0) <ℤ pos 0
  pub least : UnknownsHold values v

-- no unknown is negative, and the slack of a row is, and of no row before it
pub record IsNegativeSlack (scale : ℕ) (s : System) (values : List ℤ) (v : ℕ) : Type 0 where
  pub unknowns : UnknownsHold values s.unknowns
  pub row : ℕ
  pub is : v ≡ s.unknowns + row
  pub below : row < length s.rows
  pub negative : IsSomeAnd (slice_get s.rows row) (λ r. row_value scale values r <ℤ pos 0)
  pub least : RowsHold scale values s.rows row

abbrev pub IsLeastNegative : ℕ → System → List ℤ → ℕ → Type 0
IsLeastNegative scale s values v = IsNegativeUnknown s values v ⊎ IsNegativeSlack scale s values v

-- none is negative
pub record NoneIsNegative (scale : ℕ) (s : System) (values : List ℤ) : Type 0 where
  pub unknowns : UnknownsHold values s.unknowns
  pub rows : RowsHold scale values s.rows (length s.rows)

-- none is negative, at the values over some scale
pub record NoneNegativeAt (s : System) (d : Tableau) : Type 0 where
  pub scale : ℕ
  pub values : List ℤ
  pub is : IsScale scale d.rows
  pub are : AreValues scale d.rows values
  pub none : NoneIsNegative scale s values
