-- Runs of the rule by revised dictionaries, and the branch of systems that they solve.
use Rattle.std.specs.Prelude.{ℕ, ◌<◌, ◌≤◌, ◌≡◌, List, [], ◌∷◌, length, take, reverse}
use Rattle.ta_linear.specs.Rows.{AllBelow}
use Rattle.ta_linear.specs.declared.row.Row.{Row}
use Rattle.ta_linear.specs.declared.row.System.{System}
use Rattle.ta_dense.specs.Tableau.{Tableau, TableauRow, row_of}
use Rattle.ta_dense.specs.Slack.{slack_tableau}
use Rattle.ta_dense.specs.Kept.{KeptPivot}
use Rattle.ta_revised.specs.Modest.{AreModestRows, IsModest}
use Rattle.ta_revised.specs.Negative.{FirstHold, NoneNegativeAt}
use Rattle.ta_revised.specs.ShortRows.{AreShort}
use Rattle.ta_revised.specs.Valid.{IsRevised}
use Rattle.ta_simplex.specs.LeastIndex.{Stuck}
use Rattle.ta_simplex.specs.Follows.{Follows, tableau_after}
use Rattle.ta_simplex.specs.Vertex.{ValueIs}
use Rattle.ta_simplex.specs.Ends.{IsEnd}
use Rattle.ta_simplex.specs.declared.End.{End}
use Rattle.ta_simplex.specs.declared.End.TheVariants.{Refuted, Vertex}
use Rattle.ta_simplex.specs.declared.fraction.Fraction.{Fraction}
use Rattle.ta_simplex.specs.declared.revised_run.Beginning.{Beginning}
use Rattle.ta_simplex.specs.declared.revised_run.Ran.{Ran}
use Rattle.ta_simplex.specs.declared.revised_run.Step.{Step}
use Rattle.ta_simplex.specs.declared.revised_run.Step.TheVariants.{Pivoted, Ended, GivenUp}
use Rattle.ta_simplex.specs.declared.revised_branch.RevisedStanding.{RevisedStanding}
use Rattle.ta_simplex.specs.declared.revised_branch.RevisedBranch.{RevisedBranch}

-- the rule leads to this tableau, and each one before it is modest
pub record RunsModestly (s : System) (t : Tableau) : Type 0 where
  pub pivots : List KeptPivot
  pub follows : Follows (slack_tableau s) pivots (length pivots) t
  pub modest : (j : ℕ) → j < length pivots → IsModest s.unknowns (tableau_after (slack_tableau s) pivots j)

-- these are the unknowns' rows of a tableau to which the rule leads
pub record IsUnderWay (s : System) (d : Tableau) : Type 0 where
  pub modest : AreModestRows s.rows
  pub tableau : Tableau
  pub runs : RunsModestly s tableau
  pub revised : IsRevised s tableau d

-- with them a run begins, and the first rows hold, so many
pub record Begins (s : System) (b : Beginning) : Type 0 where
  pub under_way : IsUnderWay s b.dictionary
  pub hold : FirstHold s b.dictionary b.hold

-- nothing can enter for a row of such a tableau, which is this one
pub record IsStuckAt (s : System) (d : Tableau) (r : TableauRow) (t : Tableau) (row : ℕ) : Type 0 where
  pub revised : IsRevised s t d
  pub chosen : r ≡ row_of t row
  pub stuck : Stuck t row

-- the values of the first unknowns
pub record AreRevisedValues (d : Tableau) (count : ℕ) (values : List Fraction) : Type 0 where
  pub long : length values ≡ count
  pub each : (x : ℕ) → x < count → ValueIs values x (row_of d x).constant (row_of d x).denominator

-- no variable is negative at a vertex
abbrev pub HoldsAt : System → Tableau → End → Type 0
HoldsAt s d (Vertex values) = NoneNegativeAt s d
HoldsAt s d (Refuted multipliers) = Unit {0}

-- where a run ended, and what it came to
pub record HasRun (s : System) (r : Ran) : Type 0 where
  pub ended : IsEnd s r.end
  pub under_way : IsUnderWay s r.dictionary
  pub holds : HoldsAt s r.dictionary r.end

-- what one step came to
abbrev pub IsStep : System → Step → Type 0
IsStep s (Pivoted d) = IsUnderWay s d
IsStep s (Ended r) = HasRun s r
IsStep s GivenUp = Unit {0}

-- these are the rows of a system, and the rule leads from its slacks to the tableau of its dictionary
pub record StandsRevised (rows : List Row) (o : RevisedStanding) : Type 0 where
  pub below : AllBelow o.unknowns rows
  pub under_way : IsUnderWay (record { unknowns = o.unknowns; rows = rows; within = below }) o.dictionary
  pub holds : NoneNegativeAt (record { unknowns = o.unknowns; rows = rows; within = below }) o.dictionary

-- the systems, the last first, each with no more rows than the one after it in the branch; each has the first of all rows as its rows
abbrev pub AreRevised : List Row → ℕ → List RevisedStanding → Type 0
AreRevised rows most [] = Unit {0}
AreRevised rows most (o ∷ os) = (o.rows ≤ most) × StandsRevised (take o.rows rows) o × AreRevised rows o.rows os

-- a branch whose systems' rows are the first of these, and so are those in short numbers
pub record IsRevisedBranch (rows : List Row) (b : RevisedBranch) : Type 0 where
  pub systems : AreRevised rows (length rows) (reverse b.systems.items)
  pub short : AreShort b.short (take (length b.short.rows.items) rows)

-- a branch over other rows, of which the first, this many, are the same as these
pub record SharesRevisedRows (b : RevisedBranch) (same : ℕ) (rows : List Row) : Type 0 where
  pub before : List Row
  pub branch : IsRevisedBranch before b
  pub within : same ≤ length rows
  pub rows_are : take same before ≡ take same rows

-- the last system, if there is one, has no more unknowns and rows
abbrev pub RevisedFits : ℕ → ℕ → List RevisedStanding → Type 0
RevisedFits unknowns same [] = Unit {0}
RevisedFits unknowns same (o ∷ os) = (o.unknowns ≤ unknowns) × (o.rows ≤ same)
