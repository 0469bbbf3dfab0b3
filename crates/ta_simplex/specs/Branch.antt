-- A branch: systems that ended at vertices, each a beginning of the next, by revised dictionaries or by full ones.
use Rattle.std.specs.Prelude.{ℕ, ◌≤◌, ◌≡◌, List, length, take}
use Rattle.ta_linear.specs.declared.row.Row.{Row}
use Rattle.ta_dense.specs.Tableau.{Tableau}
use Rattle.ta_dense.specs.Kept.{KeptPivot}
use Rattle.ta_simplex.specs.FullBranch.{IsFullBranch}
use Rattle.ta_simplex.specs.RevisedRuns.{IsRevisedBranch}
use Rattle.ta_simplex.specs.declared.branch.Branch.{Branch}

-- a branch whose systems' rows are the first of these
pub record IsBranch {D K : Type 0} (tableau : D → Tableau) (pivot_of : K → KeptPivot) (rows : List Row) (b : Branch D K) : Type 0 where
  pub revised : IsRevisedBranch rows b.revised
  pub full : IsFullBranch tableau pivot_of rows b.full

-- a branch over other rows, of which the first, this many, are the same as these
pub record SharesRows {D K : Type 0} (tableau : D → Tableau) (pivot_of : K → KeptPivot) (b : Branch D K) (same : ℕ) (rows : List Row) : Type 0 where
  pub before : List Row
  pub branch : IsBranch tableau pivot_of before b
  pub within : same ≤ length rows
  pub rows_are : take same before ≡ take same rows
