-- Checks in order, up to the first that does not pass; the rows of conditions and guards as such checks.
use Rattle.std.specs.Prelude.{ℕ, ℤ, ◌<◌, ◌≡◌, Bool, true, false, List, slice_get, Option, Some, None, Result, Ok, Err}
use Rattle.std.specs.List.{AllByRecursion}
use Rattle.ta_linear.specs.Terms.{IsNormal}
use Rattle.ta_linear.specs.Sums.{StaysInRange}
use Rattle.ta_linear.specs.Values.{RowHolds}
use Rattle.ta_linear.specs.declared.row.Row.{Row}
use Rattle.ta_linear.specs.declared.fault.OutOfRange.{OutOfRange}
use Rattle.ta_automaton.specs.declared.condition.Comparison.{Comparison}
use Rattle.ta_automaton.specs.declared.condition.Condition.{Condition}

-- each item passes, and its number is known
abbrev pub AllPass : {X : Type 0} → (ℕ → X → Type 0) → List X → Type 0
AllPass {X} Passes items = (j : ℕ) (item : X) → slice_get items j ≡ Some item → Passes j item

-- item k is bad, and each one before it passes
pub record StopsAt {X : Type 0} (Passes Bad : ℕ → X → Type 0) (items : List X) (k : ℕ) : Type 0 where
  pub item : X
  pub at : slice_get items k ≡ Some item
  pub before : (j : ℕ) (other : X) → j < k → slice_get items j ≡ Some other → Passes j other
  pub bad : Bad k item

-- a row whose evaluation stays in range and whose value is at least 0
pub record RowPasses (point : ℕ → ℤ) (row : Row) : Type 0 where
  pub stays : StaysInRange point row.form.constant row.form.terms
  pub holds : RowHolds point row

-- a row whose evaluation stays in range and whose value is below 0
pub record RowFails (point : ℕ → ℤ) (row : Row) : Type 0 where
  pub stays : StaysInRange point row.form.constant row.form.terms
  pub fails : ¬ RowHolds point row

-- a row with a product or a partial sum that leaves the range
abbrev pub RowOutOfRange : (ℕ → ℤ) → Row → Type 0
RowOutOfRange point row = ¬ StaysInRange point row.form.constant row.form.terms

-- what the test of a row answers
abbrev pub RowAnswer : (ℕ → ℤ) → Row → Result Bool OutOfRange → Type 0
RowAnswer point row (Ok true) = RowPasses point row
RowAnswer point row (Ok false) = RowFails point row
RowAnswer point row (Err fault) = RowOutOfRange point row

-- each row passes
abbrev pub RowsPass : (ℕ → ℤ) → List Row → Type 0
RowsPass point rows = AllPass (λ j row. RowPasses point row) rows

-- some row is bad, and each one before it passes
abbrev pub RowsStop : (ℕ → ℤ) → (Row → Type 0) → List Row → Type 0
RowsStop point Bad rows = (k : ℕ) × StopsAt (λ j row. RowPasses point row) (λ j row. Bad row) rows k

-- what the test of rows in order answers
abbrev pub RowsAnswer : (ℕ → ℤ) → List Row → Result Bool OutOfRange → Type 0
RowsAnswer point rows (Ok true) = RowsPass point rows
RowsAnswer point rows (Ok false) = RowsStop point (RowFails point) rows
RowsAnswer point rows (Err fault) = RowsStop point (RowOutOfRange point) rows

-- each row of each comparison passes
abbrev pub ConditionPasses : (ℕ → ℤ) → Condition → Type 0
ConditionPasses point condition = AllPass (λ j (comparison : Comparison). RowsPass point comparison.rows) condition.comparisons

-- comparison k stops at a bad row, and each one before it passes
abbrev pub ConditionStopsAt : (ℕ → ℤ) → (Row → Type 0) → Condition → ℕ → Type 0
ConditionStopsAt point Bad condition k =
    StopsAt (λ j (comparison : Comparison). RowsPass point comparison.rows) (λ j (comparison : Comparison). RowsStop point Bad comparison.rows)
    condition.comparisons k

-- the first comparison that is false, or none, or an evaluation on the way that leaves the range
abbrev pub FirstFalse : (ℕ → ℤ) → Condition → Result (Option ℕ) OutOfRange → Type 0
FirstFalse point condition (Ok None) = ConditionPasses point condition
FirstFalse point condition (Ok (Some k)) = ConditionStopsAt point (RowFails point) condition k
FirstFalse point condition (Err fault) = (k : ℕ) × ConditionStopsAt point (RowOutOfRange point) condition k

-- rows, and conditions, over the first places alone
abbrev pub RowsOver : ℕ → List Row → Type 0
RowsOver places rows = AllByRecursion (λ (row : Row). IsNormal 0 places row.form.terms) rows

abbrev pub Over : ℕ → Condition → Type 0
Over places condition = AllByRecursion (λ (comparison : Comparison). RowsOver places comparison.rows) condition.comparisons
