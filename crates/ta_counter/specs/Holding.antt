-- Which guards hold at a point.
use Rattle.std.specs.Prelude.{ℕ, ℤ, ◌≡◌, ◌↔◌, List, slice_get, Some, IsBitSet, Result, Ok, Err}
use Rattle.ta_linear.specs.Sums.{StaysInRange}
use Rattle.ta_linear.specs.Values.{RowHolds}
use Rattle.ta_linear.specs.declared.fault.OutOfRange.{OutOfRange}
use Rattle.ta_linear.specs.declared.row.Row.{Row}
use Rattle.ta_automaton.specs.declared.automaton.Automaton.{Automaton}
use Rattle.ta_counter.specs.declared.holding.Guards.{Guards}
use Rattle.ta_counter.specs.Checks.{AllPass}

-- row i exists and holds
pub record HoldsThere (point : ℕ → ℤ) (rows : List Row) (i : ℕ) : Type 0 where
  pub row : Row
  pub named : slice_get rows i ≡ Some row
  pub holds : RowHolds point row

-- a mask names the rows that hold, and no others
abbrev pub MaskAt : (ℕ → ℤ) → List Row → ℕ → Type 0
MaskAt point rows mask = (i : ℕ) → IsBitSet mask i ↔ HoldsThere point rows i

-- each row is evaluated within the range
abbrev pub RowsStay : (ℕ → ℤ) → List Row → Type 0
RowsStay point rows = AllPass (λ j (row : Row). StaysInRange point row.form.constant row.form.terms) rows

-- each guard of the automaton is evaluated within the range
pub record GuardsStay (a : Automaton) (point : ℕ → ℤ) : Type 0 where
  pub rise : RowsStay point a.rise
  pub fall : RowsStay point a.fall

-- the masks name the guards that hold, and all guards are evaluated within the range
pub record GuardsAre (a : Automaton) (point : ℕ → ℤ) (guards : Guards) : Type 0 where
  pub stay : GuardsStay a point
  pub rise : MaskAt point a.rise guards.rise
  pub fall : MaskAt point a.fall guards.fall

-- what the evaluation of all guards answers
abbrev pub GuardsAnswer : Automaton → (ℕ → ℤ) → Result Guards OutOfRange → Type 0
GuardsAnswer a point (Ok guards) = GuardsAre a point guards
GuardsAnswer a point (Err fault) = ¬ GuardsStay a point
