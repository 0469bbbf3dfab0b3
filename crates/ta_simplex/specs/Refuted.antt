-- The Farkas certificate of a row for which no variable can enter. Source: Schrijver, Theory of Linear and Integer Programming, 1986
-- (Farkas' lemma).
use Rattle.std.specs.Prelude.{ℕ, ◌+◌, ◌<◌, ◌≢◌, List, ℤ, pos, neg_ℤ, ◌≡◌, length}
use Rattle.ta_linear.specs.Terms.{coefficient}
use Rattle.ta_linear.specs.Leaf.{LeafOf}
use Rattle.ta_linear.specs.declared.row.System.{System}
use Rattle.ta_dense.specs.Tableau.{Tableau, row_of, cell_of, basic_of, non_basic_of}
use Rattle.ta_dense.specs.Slack.{slack_tableau}
use Rattle.ta_simplex.specs.LeastIndex.{Reached, Stuck}

-- the multiplier of a row of the system, by the variable that its slack is: the denominator if it is the row's own, the negated cell if it
-- is non-basic, and none if it is basic in another row
pub record GivesMultipliers (unknowns count : ℕ) (t : Tableau) (row : ℕ) (multiplier : ℕ → ℤ) : Type 0 where
  pub own : (k : ℕ) → k < count → basic_of t row ≡ unknowns + k → multiplier k ≡ (row_of t row).denominator
  pub cells : (j k : ℕ) → j < length t.non_basic → k < count → non_basic_of t j ≡ unknowns + k → multiplier k ≡ neg_ℤ (cell_of (row_of t row) j)
  pub others : (i k : ℕ) → i < length t.rows → i ≢ row → k < count → basic_of t i ≡ unknowns + k → multiplier k ≡ pos 0

-- the multipliers of a row for which nothing can enter are a leaf, with at least one multiplier
pub record AreLeafMultipliers (s : System) (t : Tableau) (row : ℕ) (ts : List (ℕ × ℤ)) : Type 0 where
  pub gives : GivesMultipliers s.unknowns (length s.rows) t row (coefficient ts)
  pub leaf : LeafOf s ts
  pub some : 0 < length ts

-- the rule ends at a row for which nothing can enter
pub record IsRefuted (s : System) (ts : List (ℕ × ℤ)) : Type 0 where
  pub steps : ℕ
  pub tableau : Tableau
  pub row : ℕ
  pub reached : Reached (slack_tableau s) steps tableau
  pub stuck : Stuck tableau row
  pub multipliers : AreLeafMultipliers s tableau row ts
