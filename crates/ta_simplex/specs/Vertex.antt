-- The vertex (basic feasible solution) at which the rule ends.
use Rattle.std.specs.Prelude.{ℕ, ◌<◌, List, ℤ, pos, ◌*ℤ◌, ◌≤ℤ◌, ◌≡◌, length, map, slice_get, All, IsSomeAnd}
use Rattle.ta_linear.specs.declared.row.System.{System}
use Rattle.ta_dense.specs.Tableau.{Tableau, row_of, basic_of, non_basic_of}
use Rattle.ta_dense.specs.Slack.{slack_tableau, slack_at}
use Rattle.ta_simplex.specs.LeastIndex.{Reached, NoneLeaves}
use Rattle.ta_simplex.specs.declared.fraction.Fraction.{Fraction}

-- the value of an unknown is this fraction
abbrev pub ValueIs : List Fraction → ℕ → ℤ → ℤ → Type 0
ValueIs values x top bottom = IsSomeAnd (slice_get values x) (λ f. (f.top ≡ top) × (f.bottom ≡ bottom))

-- the numerators and denominators of values
abbrev pub parts_of : List Fraction → List (ℤ × ℤ)
parts_of values = map (λ f. (f.top, f.bottom)) values

-- a 0 for each unknown
pub record AreZeros (unknowns : ℕ) (values : List Fraction) : Type 0 where
  pub count : length values ≡ unknowns
  pub zero : (x : ℕ) → x < unknowns → ValueIs values x (pos 0) (pos 1)

-- the unknowns' values: the constant over the denominator where one is basic, and 0 where it is not
pub record GivesValues (t : Tableau) (unknowns : ℕ) (values : List Fraction) : Type 0 where
  pub count : length values ≡ unknowns
  pub basic : (i : ℕ) → i < length t.rows → basic_of t i < unknowns → ValueIs values (basic_of t i) (row_of t i).constant (row_of t i).denominator
  pub non_basic : (j : ℕ) → j < length t.non_basic → non_basic_of t j < unknowns → ValueIs values (non_basic_of t j) (pos 0) (pos 1)

-- the values are at least 0 and meet every row: for a common scale, each is a natural number over the scale, and at these numbers each
-- row's linear part plus the scale times its constant is at least 0
pub record MeetRows (s : System) (values : List Fraction) : Type 0 where
  pub scale : ℕ
  pub numbers : ℕ → ℤ
  pub some : 0 < scale
  pub over_scale : (x : ℕ) → x < s.unknowns → IsSomeAnd (slice_get values x) (λ f. numbers x *ℤ f.bottom ≡ pos scale *ℤ f.top)
  pub natural : (x : ℕ) → x < s.unknowns → pos 0 ≤ℤ numbers x
  pub not_negative : (x : ℕ) → x < s.unknowns → IsSomeAnd (slice_get values x) (λ f. pos 0 ≤ℤ f.top)
  pub rows_hold : All (λ r. pos 0 ≤ℤ slack_at r (pos scale) numbers) s.rows

-- the rule ends with no negative constant
pub record IsVertex (s : System) (values : List Fraction) : Type 0 where
  pub steps : ℕ
  pub tableau : Tableau
  pub reached : Reached (slack_tableau s) steps tableau
  pub ended : NoneLeaves tableau
  pub gives : GivesValues tableau s.unknowns values
  pub meet : MeetRows s values
