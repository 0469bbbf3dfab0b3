-- what the tests of rows and conditions say
use Rattle.ta_counter.proofs.Common.{◌≡◌, ℕ, ℤ, Bool, true, false, List, subst, All, Ok, slice_get-get_or, all_at, RowHolds, Row, Comparison, HoldsAt}
use Rattle.ta_counter.proofs.Common.{RowPasses, RowFails, RowAnswer, RowsAnswer, RowsPass, RowsStop, ConditionPasses, ConditionStopsAt}
use Rattle.ta_automaton.specs.declared.condition.Condition.{Condition}

pub row_passes : (point : ℕ → ℤ) (row : Row) (b : Bool) → RowAnswer point row (Ok b) → b ≡ true → RowPasses point row
row_passes point row b told is = subst (λ (x : Bool). RowAnswer point row (Ok x)) is told

pub row_fails : (point : ℕ → ℤ) (row : Row) (b : Bool) → RowAnswer point row (Ok b) → b ≡ false → RowFails point row
row_fails point row b told is = subst (λ (x : Bool). RowAnswer point row (Ok x)) is told

pub rows_pass : (point : ℕ → ℤ) (rows : List Row) (b : Bool) → RowsAnswer point rows (Ok b) → b ≡ true → RowsPass point rows
rows_pass point rows b told is = subst (λ (x : Bool). RowsAnswer point rows (Ok x)) is told

pub rows_fail : (point : ℕ → ℤ) (rows : List Row) (b : Bool) → RowsAnswer point rows (Ok b) → b ≡ false → RowsStop point (RowFails point) rows
rows_fail point rows b told is = subst (λ (x : Bool). RowsAnswer point rows (Ok x)) is told

pub holds_from : (point : ℕ → ℤ) (condition : Condition) → ConditionPasses point condition → HoldsAt point condition
holds_from point condition passes k d b i e c =
    (passes k _ (slice_get-get_or condition.comparisons k d b) i _ (slice_get-get_or _ i e c)).holds

pub fails_from : (point : ℕ → ℤ) (condition : Condition) (k : ℕ) → ConditionStopsAt point (RowFails point) condition k → HoldsAt point condition → ⊥
fails_from point condition k stop all =
    let inner = stop.bad.1 in
    let rows = all_at (λ (comparison : Comparison). All (RowHolds point) comparison.rows) condition.comparisons k stop.item all stop.at in
    inner.bad.fails (all_at (RowHolds point) stop.item.rows stop.bad.0 inner.item rows inner.at)
