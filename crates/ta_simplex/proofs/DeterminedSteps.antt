-- a run of the least-index rule has one end: nothing leaves, nothing can enter, or a pivot leaves the range
use Rattle.ta_simplex.proofs.Common.{cases_order, ◌≡◌, inl, inr, ℕ, suc, ◌-◌, ◌^◌, ◌<◌, min, arith, sym, ap, ◌∙◌, subst, ints, System, Tableau, Enters}
use Rattle.ta_simplex.proofs.Common.{FirstOverflow, slack_tableau, variables, IsAssignment, DictionaryOf, Leaves, NoneLeaves, LeastStep, Reached, Stuck}
use Rattle.ta_simplex.proofs.Common.{OverflowsAt, RuleEnds}
use Rattle.ta_simplex.proofs.Choose.{same_row, same_column, not_ended}
use Rattle.ta_simplex.proofs.RunLemmas.{reached_dictionary, reached_same, ends_once, step_at, no_step_after}

-- two ends of a run are one tableau
pub end_same : (s : System) (j k : ℕ) (t u : Tableau) → Reached (slack_tableau s) j t → RuleEnds t → Reached (slack_tableau s) k u → RuleEnds u → t ≡ u
end_same s j k t u r end q last =
    let same = ends_once s j k t u r end q last in
    reached_same s k t u (subst (λ (i : ℕ). Reached (slack_tableau s) i t) same r) q

-- where a row is stuck, a variable leaves
pub stuck_leaves : (t : Tableau) (row : ℕ) → Stuck t row → NoneLeaves t → ⊥
stuck_leaves t row stuck none =
    let h = none row stuck.leaves.below in
    let k = stuck.leaves.negative in
    absurd (omega (arith, ints, h, k))

-- where a pivot leaves the range, no step is made
no_step : (s : System) (t v : Tableau) (row column at : ℕ) → DictionaryOf s t → Leaves t row → Enters t row column → FirstOverflow t row column at
    → LeastStep t v → ⊥
no_step s t v row column at d leaves enters overflow step =
    let rows = same_row (IsAssignment s) (variables s) t step.row row d step.leaves leaves in
    let entering = subst (λ (r : ℕ). Enters t r step.column) rows step.enters in
    let columns = same_column (IsAssignment s) (variables s) t row step.column column d entering enters in
    let fits = rw (rows, columns) at step.in_range in
    overflow.refused (fits at overflow.below overflow.below overflow.apart)

-- nor does a longer run pass there
no_step_on : (s : System) (c k : ℕ) (t : Tableau) (o : OverflowsAt (slack_tableau s) c) → Reached (slack_tableau s) k t → o.steps < k → ⊥
no_step_on s c k t o r h =
    let next = step_at s k o.steps t r h in
    let same = reached_same s o.steps next.0 o.tableau next.2 o.reached in
    no_step s o.tableau next.1 o.row o.column o.at (reached_dictionary s o.steps o.tableau o.reached) o.leaves o.enters o.overflow
    (subst (λ (v : Tableau). LeastStep v next.1) same next.3)

-- a run that ends has no such pivot
pub ends_within : (s : System) (c k : ℕ) (t : Tableau) → OverflowsAt (slack_tableau s) c → Reached (slack_tableau s) k t → RuleEnds t → ⊥
ends_within s c k t o r end =
    elim (cases_order o.steps k) [
      | inl same ↦
          let here = reached_same s k o.tableau t (subst (λ (i : ℕ). Reached (slack_tableau s) i o.tableau) same o.reached) r in
          not_ended (IsAssignment s) (variables s) o.tableau o.row o.column (reached_dictionary s o.steps o.tableau o.reached) o.leaves o.enters
          (subst RuleEnds (sym here) end)
      | inr other ↦ elim other [
        | inl less ↦ no_step_on s c k t o r less
        | inr more ↦ no_step_after s k o.steps t o.tableau r end o.reached more
      ]
    ]

-- the pivot that leaves the range is one
pub overflow_once : (s : System) (c d : ℕ) → OverflowsAt (slack_tableau s) c → OverflowsAt (slack_tableau s) d → c ≡ d
overflow_once s c d o q =
    elim (cases_order o.steps q.steps) [
      | inl same ↦ o.counted ∙ ap (λ (k : ℕ). min (suc k) (2 ^ 64 - 1)) same ∙ sym q.counted
      | inr other ↦ elim other [
        | inl less ↦ absurd (no_step_on s c q.steps q.tableau o q.reached less)
        | inr more ↦ absurd (no_step_on s d o.steps o.tableau q o.reached more)
      ]
    ]
