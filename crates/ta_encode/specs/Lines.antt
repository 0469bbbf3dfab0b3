-- Rows of the code that are written from terms over places: the limits of their numbers.
use Rattle.std.specs.Prelude.{ℕ, ℤ, pos, ◌^◌, ◌<◌, ◌≤◌, ◌≤ℤ◌, ◌<ℤ◌, ◌-ℤ◌, unsigned_abs, if◌then◌else◌, Bool, List, length, map}
use Rattle.std.specs.List.{AllByRecursion}
use Rattle.ta_base.specs.declared.limits.TheConstants.{LARGEST_NUMBER}
use Rattle.ta_linear.specs.Values.{terms_value}
use Rattle.ta_automaton.specs.declared.automaton.Automaton.{Automaton}
use Rattle.ta_encode.specs.Unknowns.{Meaning, place_coefficient}
use Rattle.ta_encode.specs.System.{LinearRow, Bound, start_coefficient}
use Rattle.ta_encode.specs.declared.line.Sense.{Sense}
use Rattle.ta_encode.specs.declared.line.Sense.TheVariants.{Plain, Opposite, Negated}

-- at most 224 terms, each coefficient at most 1,000,000,000 in absolute value
pub record SmallTerms (terms : List (ℕ × ℤ)) : Type 0 where
  pub few : length terms ≤ 224
  pub small : AllByRecursion (λ (t : ℕ × ℤ). unsigned_abs t.1 ≤ LARGEST_NUMBER) terms

-- a coefficient of a row that is written in a sense
abbrev pub coefficient_in_sense : Sense → ℤ → ℤ
coefficient_in_sense Plain z = z
coefficient_in_sense Opposite z = pos 0 -ℤ z
coefficient_in_sense Negated z = pos 0 -ℤ z

-- what stands before an unknown in the terms over places, less the start counts if these are wanted
abbrev pub line_coefficient : Automaton → List (ℕ × ℤ) → Bool → Sense → Meaning → ℤ
line_coefficient a terms less_starts sense m = coefficient_in_sense sense
    (terms_value (place_coefficient a m) terms -ℤ (if less_starts then start_coefficient m else pos 0))

abbrev pub line_row : Automaton → List Meaning → List (ℕ × ℤ) → Bool → Sense → ℤ → LinearRow
line_row a ms terms less_starts sense constant = record { constant = constant; coefficients = map (line_coefficient a terms less_starts sense) ms }

-- a bound of an unknown of the system, at a floor below 2^126
pub record BoundWithin (unknowns : ℕ) (bound : Bound) : Type 0 where
  pub exists : bound.unknown < unknowns
  pub least : pos 0 ≤ℤ bound.floor
  pub most : bound.floor <ℤ pos (2 ^ 126)

abbrev pub BoundsWithin : ℕ → List Bound → Type 0
BoundsWithin unknowns bounds = AllByRecursion (BoundWithin unknowns) bounds
