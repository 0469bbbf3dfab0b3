-- The least-index rule ends on every system, or a pivot leaves the range.
use Rattle.std.specs.Prelude.{ℕ}
use Rattle.ta_linear.specs.declared.row.System.{System}
use Rattle.ta_dense.specs.Tableau.{Tableau}
use Rattle.ta_dense.specs.Slack.{slack_tableau}
use Rattle.ta_simplex.specs.LeastIndex.{Reached, RuleEnds, OverflowsAt}
use Rattle.ta_simplex.specs.Ends.{IsEnd}
use Rattle.ta_simplex.specs.declared.End.{End}

-- from the slacks on, the rule leads to a tableau at which it ends
abbrev pub RunEnds : System → Type 0
RunEnds s = (steps : ℕ) × (t : Tableau) × Reached (slack_tableau s) steps t × RuleEnds t

-- some pivot of the rule leaves the range
abbrev pub RunOverflows : System → Type 0
RunOverflows s = (count : ℕ) × OverflowsAt (slack_tableau s) count

-- the run of a system ends, or some pivot leaves the range. (The logic is constructive, so this is stated as "not neither": no test of the
-- specs tells which.)
abbrev pub RunsHaveEnds : Type 0
RunsHaveEnds = (s : System) → ¬ RunEnds s → ¬ RunOverflows s → ⊥

-- a system is refuted or has a vertex
abbrev pub HasEnd : System → Type 0
HasEnd s = (end : End) × IsEnd s end

-- a system has an end, or some pivot leaves the range
abbrev pub SystemsHaveEnds : Type 0
SystemsHaveEnds = (s : System) → ¬ HasEnd s → ¬ RunOverflows s → ⊥
