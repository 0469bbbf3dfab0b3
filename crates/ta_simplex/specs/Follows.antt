-- The pivots of a run as they are kept, and what they are for a longer system.
use Rattle.std.specs.Prelude.{ℕ, zero, suc, ◌-◌, ◌<◌, ◌≤◌, ◌≡◌, List, ◌++◌, pos, length, drop, replicate}
use Rattle.ta_linear.specs.declared.row.System.{System}
use Rattle.ta_dense.specs.Tableau.{Tableau, row_of, pivoted}
use Rattle.ta_dense.specs.Entering.{Enters}
use Rattle.ta_dense.specs.Leaving.{Leaves}
use Rattle.ta_dense.specs.Merge.{AllMergeInRange}
use Rattle.ta_dense.specs.Kept.{KeptPivot, kept_at}

-- the tableau after the first j of these pivots
abbrev pub tableau_after : Tableau → List KeptPivot → ℕ → Tableau
tableau_after start ks zero = start
tableau_after start ks (suc j) = pivoted (tableau_after start ks j) (kept_at ks j).row (kept_at ks j).column

-- this is the pivot that the rule makes, and it stays in range; its row's cells of later columns are 0
pub record MakesPivot (t : Tableau) (k : KeptPivot) : Type 0 where
  pub leaves : Leaves t k.row
  pub enters : Enters t k.row k.column
  pub in_range : AllMergeInRange t k.row k.column
  pub denominator : (row_of t k.row).denominator ≡ k.denominator
  pub constant : (row_of t k.row).constant ≡ k.constant
  pub cells : (row_of t k.row).cells ≡ k.cells ++ replicate (length t.non_basic - length k.cells) (pos 0)
  pub long : length k.cells ≤ length t.non_basic
  pub inside : k.column < length k.cells

-- the rule makes the first pivots of these, this many, one after another, and they lead to this tableau
pub record Follows (start : Tableau) (ks : List KeptPivot) (count : ℕ) (t : Tableau) : Type 0 where
  pub within : count ≤ length ks
  pub made : (j : ℕ) → j < count → MakesPivot (tableau_after start ks j) (kept_at ks j)
  pub last : t ≡ tableau_after start ks count

-- a system begins with another: it has no fewer unknowns, and its first rows are the other's
pub record BeginsSystem (shorter longer : System) : Type 0 where
  pub unknowns : shorter.unknowns ≤ longer.unknowns
  pub rows : longer.rows ≡ shorter.rows ++ drop (length shorter.rows) longer.rows

-- pivots that come after others
pub record AddsPivots (old new : List KeptPivot) : Type 0 where
  pub more : List KeptPivot
  pub is : new ≡ old ++ more
