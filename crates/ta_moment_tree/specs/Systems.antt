-- Systems of nodes with bounds.
use Rattle.std.specs.Prelude.{ℕ, pos, ◌^◌, ◌≤ℤ◌, ◌<ℤ◌, List, Option, map}
use Rattle.std.specs.List.{AllByRecursion}
use Rattle.ta_encode.specs.System.{bound_row}
use Rattle.ta_encode.specs.declared.meaning.Bound.{Bound}
use Rattle.ta_moments.specs.declared.fact.Fact.{Fact}
use Rattle.ta_moments.specs.Forms.{UnknownForm, form_of_row}
use Rattle.ta_moments.specs.Refutes.{Node}

-- a node of a candidate with facts, the newest first, and bounds
abbrev pub bounded_node : Option ℕ → List Fact → List Bound → Node
bounded_node candidate past bounds = record { candidate = candidate; past = past; bounds = bounds }

-- a bound as a form
abbrev pub bound_form : Bound → UnknownForm
bound_form b = form_of_row (bound_row b)

abbrev pub bound_forms : List Bound → List UnknownForm
bound_forms bounds = map bound_form bounds

-- floors are natural and below 2^126
pub record FloorWithin (bound : Bound) : Type 0 where
  pub least : pos 0 ≤ℤ bound.floor
  pub most : bound.floor <ℤ pos (2 ^ 126)

abbrev pub FloorsWithin : List Bound → Type 0
FloorsWithin bounds = AllByRecursion FloorWithin bounds
