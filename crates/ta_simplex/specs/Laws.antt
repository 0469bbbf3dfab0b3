-- The laws of the least-index rule: its end is unique and, at a vertex of natural numbers, solves the system.
use Rattle.std.specs.Prelude.{ℕ, suc, ◌+◌, ◌-◌, ◌^◌, ◌<◌, ◌≤◌, ◌≡◌, List, ℤ, pos, ◌*ℤ◌, length, min, slice_get, slice_index, IsSomeAnd, ◌≤ℤ◌, All}
use Rattle.ta_linear.specs.SameNumbers.{SameNumbers}
use Rattle.ta_linear.specs.Values.{Solves}
use Rattle.ta_linear.specs.declared.row.Row.{Row}
use Rattle.ta_linear.specs.declared.row.System.{System}
use Rattle.ta_dense.specs.Tableau.{Tableau}
use Rattle.ta_dense.specs.Slack.{slack_tableau}
use Rattle.ta_dense.specs.Kept.{KeptPivot, StayInRange}
use Rattle.ta_dense.specs.Extending.{extended, new_rows, FirstLeaving}
use Rattle.ta_simplex.specs.Ends.{IsEnd}
use Rattle.ta_simplex.specs.Follows.{BeginsSystem, Follows}
use Rattle.ta_simplex.specs.LeastIndex.{Reached, RuleEnds, OverflowsAt}
use Rattle.ta_simplex.specs.Refuted.{IsRefuted}
use Rattle.ta_simplex.specs.Vertex.{MeetRows}
use Rattle.ta_simplex.specs.declared.End.{End}
use Rattle.ta_simplex.specs.declared.fraction.Fraction.{Fraction}

-- from the slacks on, the rule leads to one tableau for each number of steps, and it ends at no more than one number of steps
pub record RunsAreDetermined : Type 0 where
  pub same : (s : System) (k : ℕ) (t t' : Tableau) → Reached (slack_tableau s) k t → Reached (slack_tableau s) k t' → t ≡ t'
  pub once : (s : System) (j k : ℕ) (t t' : Tableau) → Reached (slack_tableau s) j t → RuleEnds t → Reached (slack_tableau s) k t' → RuleEnds t' → j ≡ k

-- systems with the same numbers have one end: one list of multipliers or one of values; none if a pivot leaves the range; and the number of
-- the pivot that leaves it is unique
pub record EndsAreDetermined : Type 0 where
  pub one : (s z : System) → SameNumbers s z → (e f : End) → IsEnd s e → IsEnd z f → e ≡ f
  pub none : (s z : System) → SameNumbers s z → (e : End) (k : ℕ) → IsEnd s e → OverflowsAt (slack_tableau z) k → ⊥
  pub first : (s z : System) → SameNumbers s z → (j k : ℕ) → OverflowsAt (slack_tableau s) j → OverflowsAt (slack_tableau z) k → j ≡ k

-- where each value of a vertex is a natural number, these numbers solve the system
abbrev pub WholeVerticesSolve : Type 0
WholeVerticesSolve =
    (s : System) (values : List Fraction) (numbers : List ℕ) → MeetRows s values → length numbers ≡ s.unknowns →
    ((x : ℕ) → x < s.unknowns → IsSomeAnd (slice_get values x) (λ f. f.top ≡ pos (slice_index numbers x) *ℤ f.bottom)) → Solves s numbers

-- if no row has a positive constant, the numbers over the common scale of a vertex solve the system themselves
abbrev pub ScaledVerticesSolve : Type 0
ScaledVerticesSolve =
    (s : System) (values : List Fraction) (m : MeetRows s values) → All (λ (r : Row). r.form.constant ≤ℤ pos 0) s.rows → (numbers : List ℕ)
    → length numbers ≡ s.unknowns →
    ((x : ℕ) → x < s.unknowns → m.numbers x ≡ pos (slice_index numbers x)) → Solves s numbers

-- a refutation has at most one multiplier more than the system has unknowns
abbrev pub MultipliersAreFew : Type 0
MultipliersAreFew = (s : System) (ts : List (ℕ × ℤ)) → IsRefuted s ts → length ts ≤ s.unknowns + 1

-- where a longer system begins with a shorter: its rows begin with the shorter's, over no fewer unknowns
pub record PrefixesGoFirst : Type 0 where
  -- each run has its list of pivots
  pub listed : (s : System) (k : ℕ) (t : Tableau) → Reached (slack_tableau s) k t → (ks : List KeptPivot) × (length ks ≡ k) × Follows (slack_tableau s) ks k t
  -- the pivots with which the shorter's run begins are the longer's first, and lead to the extended tableau, where no new row leaves the
  -- range in them
  pub first : (s l : System) (ks : List KeptPivot) (t : Tableau) → BeginsSystem s l → Follows (slack_tableau s) ks (length ks) t →
      StayInRange l.unknowns ks (length ks) (new_rows t l) → Follows (slack_tableau l) ks (length ks) (extended t ks l)
      × Reached (slack_tableau l) (length ks) (extended t ks l)
  -- the longer's run ends at the first of them in which a new row does
  pub leaves : (s l : System) (ks : List KeptPivot) (t : Tableau) → BeginsSystem s l → Follows (slack_tableau s) ks (length ks) t →
      (pivot row : ℕ) → FirstLeaving t ks l pivot row → OverflowsAt (slack_tableau l) (min (suc pivot) (2 ^ 64 - 1))
