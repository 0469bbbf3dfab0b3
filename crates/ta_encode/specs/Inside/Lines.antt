-- Rows of the code that are written from terms over places.
use Rattle.std.specs.Prelude.{ℕ, ℤ, pos, ◌-◌, ◌≤◌, ◌-ℤ◌, unsigned_abs, Bool, true, false, List, ◌++◌, length, map, filter, not, slice_get, Some, ◌≡◌}
use Rattle.std.specs.List.{AllByRecursion, range_with_len}
use Rattle.ta_base.specs.declared.limits.TheConstants.{LARGEST_NUMBER}
use Rattle.ta_linear.specs.Rows.{AllBelow}
use Rattle.ta_linear.specs.declared.form.Form.{Form}
use Rattle.ta_linear.specs.declared.row.Row.{Row}
use Rattle.ta_base.specs.Masks.{has_bit}
use Rattle.ta_automaton.specs.declared.pattern.Event.{Event}
use Rattle.ta_automaton.specs.declared.pattern.Pattern.{Pattern}
use Rattle.ta_automaton.specs.declared.automaton.Automaton.{Automaton}
use Rattle.ta_automaton.specs.declared.condition.Comparison.{Comparison}
use Rattle.ta_automaton.specs.declared.condition.Condition.{Condition}
use Rattle.ta_encode.specs.Unknowns.{Meaning}
use Rattle.ta_encode.specs.System.{LinearRow, Side, Low, High, counter_row, negated, opposite}
use Rattle.ta_encode.specs.Code.{AreRowsOf}
use Rattle.ta_encode.specs.declared.line.Sense.{Sense}
use Rattle.ta_encode.specs.declared.line.Sense.TheVariants.{Plain, Opposite, Negated}
use Rattle.ta_encode.specs.Lines.{SmallTerms, coefficient_in_sense}

-- code rows of the first n unknowns
pub record AreWritten (ls : List LinearRow) (n : ℕ) (rows : List Row) : Type 0 where
  pub rows_of : AreRowsOf ls rows
  pub below : AllBelow n rows

-- a list that begins with another
pub record IsBehind {X : Type 0} (before after : List X) : Type 0 where
  pub more : List X
  pub is : after ≡ before ++ more

-- writing these rows of the first n unknowns after others
pub record AddsRows (ls : List LinearRow) (n : ℕ) (before after : List Row) : Type 0 where
  pub rows : (done : List LinearRow) → AreWritten done n before → AreWritten (done ++ ls) n after
  pub behind : IsBehind before after

-- a form whose numbers are at most 1,000,000,000 in absolute value
pub record SmallForm (form : Form) : Type 0 where
  pub terms : SmallTerms form.terms
  pub constant : unsigned_abs form.constant ≤ LARGEST_NUMBER

abbrev pub SmallRows : List Row → Type 0
SmallRows rows = AllByRecursion (λ (r : Row). SmallForm r.form) rows

abbrev pub SmallCondition : Condition → Type 0
SmallCondition condition = AllByRecursion (λ (k : Comparison). SmallRows k.rows) condition.comparisons

-- a row unchanged, its opposite, or its negation
abbrev pub in_sense : Sense → LinearRow → LinearRow
in_sense Plain row = row
in_sense Opposite row = opposite row
in_sense Negated row = negated row

-- the constant of a row that is written so
abbrev pub constant_in_sense : Sense → ℤ → ℤ
constant_in_sense Plain z = z
constant_in_sense Opposite z = pos 0 -ℤ z
constant_in_sense Negated z = (pos 0 -ℤ z) -ℤ pos 1

-- the fall guards of the start set are negated
abbrev pub start_sense : Bool → Sense
start_sense true = Negated
start_sense false = Plain

-- a constant, and the sum of the unknowns from one number to another, written in a sense
abbrev pub block_row : ℤ → ℕ → ℕ → Sense → LinearRow
block_row constant from to sense = record {
  constant = constant;
  coefficients = map (λ k. pos 0) (range_with_len 0 from)
      ++ map (λ k. coefficient_in_sense sense (pos 1)) (range_with_len from (to - from));
}

-- the row of a bound, as a block of one unknown
abbrev pub bound_constant : Side → ℤ → ℤ
bound_constant Low floor = floor
bound_constant High floor = (pos 0 -ℤ floor) -ℤ pos 1

abbrev pub bound_sense : Side → Sense
bound_sense Low = Opposite
bound_sense High = Plain

-- the counters of the locations outside a set
abbrev pub counters_outside : Automaton → List Meaning → ℕ → List LinearRow
counters_outside a ms empty = map (counter_row a ms) (filter (λ l. not (has_bit empty l)) (range_with_len 0 (length a.locations)))

-- the conditions of a pattern's events have small numbers
pub record SmallEvents (p : Pattern) : Type 0 where
  pub small : (e : ℕ) (event : Event) → slice_get p.events e ≡ Some event → SmallCondition event.condition
