-- A branch: systems that ended at vertices, each a beginning of the next.
use Rattle.std.specs.Prelude.{ℕ, ◌≤◌, ◌≡◌, List, [], ◌∷◌, length, map, reverse, take}
use Rattle.ta_linear.specs.Rows.{AllBelow}
use Rattle.ta_linear.specs.declared.row.Row.{Row}
use Rattle.ta_dense.specs.Tableau.{Tableau}
use Rattle.ta_dense.specs.Slack.{slack_tableau}
use Rattle.ta_dense.specs.Kept.{KeptPivot}
use Rattle.ta_simplex.specs.Follows.{Follows}
use Rattle.ta_simplex.specs.declared.full_branch.FullBranch.{FullBranch}
use Rattle.ta_simplex.specs.declared.full_branch.Standing.{Standing}

-- these are the rows of a system, and the first pivots, as many as the system has, lead from its slacks to its dictionary
pub record StandsOn {D K : Type 0} (tableau : D → Tableau) (ks : List KeptPivot) (rows : List Row) (o : Standing D K) : Type 0 where
  pub below : AllBelow o.unknowns rows
  pub follows : Follows (slack_tableau record { unknowns = o.unknowns; rows = rows; within = below }) ks o.pivots (tableau o.dictionary)

-- the systems, the last first, each with no more pivots and rows than the one after it in the branch; each has the first of all rows as its
-- rows
abbrev pub AreStanding : {D K : Type 0} (tableau : D → Tableau) → List KeptPivot → List Row → ℕ → ℕ → List (Standing D K) → Type 0
AreStanding tableau ks rows count most [] = Unit {0}
AreStanding tableau ks rows count most (o ∷ os) = (o.pivots ≤ count) × (o.rows ≤ most) × StandsOn tableau ks (take o.rows rows) o
    × AreStanding tableau ks rows o.pivots o.rows os

-- a branch whose systems' rows are the first of these
abbrev pub IsFullBranch : {D K : Type 0} (tableau : D → Tableau) (pivot_of : K → KeptPivot) → List Row → FullBranch D K → Type 0
IsFullBranch tableau pivot_of rows b = AreStanding tableau (map pivot_of b.kept.items) rows (length b.kept.items) (length rows) (reverse b.systems.items)

-- a branch over other rows, of which the first, this many, are the same as these
pub record SharesFullRows {D K : Type 0} (tableau : D → Tableau) (pivot_of : K → KeptPivot) (b : FullBranch D K) (same : ℕ) (rows : List Row) : Type 0 where
  pub before : List Row
  pub branch : IsFullBranch tableau pivot_of before b
  pub within : same ≤ length rows
  pub rows_are : take same before ≡ take same rows

-- the last system, if there is one, has no more unknowns and rows
abbrev pub LastFits : {D K : Type 0} → ℕ → ℕ → List (Standing D K) → Type 0
LastFits unknowns same [] = Unit {0}
LastFits unknowns same (o ∷ os) = (o.unknowns ≤ unknowns) × (o.rows ≤ same)
