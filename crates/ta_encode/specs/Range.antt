-- The sums that the check of a Farkas certificate forms over the rows of a schema, and that they stay in range.
use Rattle.std.specs.Prelude.{ℕ, ℤ, pos, List, slice_get}
use Rattle.ta_linear.specs.Sums.{StaysInRange}
use Rattle.ta_encode.specs.System.{LinearRow}
use Rattle.ta_encode.specs.Search.{Pending, Search, bounded_rows}
use Rattle.ta_encode.specs.Refutes.{linear_coefficient_in, linear_constant_in, LeafOfRows}

-- the products of the multipliers with the rows' coefficients of each unknown, and with the rows' constants, and the
-- partial sums of each in the order of the list, are in range
pub record LeafStays (rows : List LinearRow) (ts : List (ℕ × ℤ)) : Type 0 where
  pub coefficients : (u : ℕ) → StaysInRange (λ r. linear_coefficient_in u (slice_get rows r)) (pos 0) ts
  pub constants : StaysInRange (λ r. linear_constant_in (slice_get rows r)) (pos 0) ts

-- a leaf whose check stays in range
pub record LeafIsJudged (rows : List LinearRow) (ts : List (ℕ × ℤ)) : Type 0 where
  pub leaf : LeafOfRows rows ts
  pub in_range : LeafStays rows ts

-- the same over the rows of a schema
abbrev pub IsJudged : {E : Type 0} → Search E → Pending E → List (ℕ × ℤ) → Type 0
IsJudged s w ts = LeafIsJudged (bounded_rows s w) ts
