-- The values of a first configuration while its counts are written.
use Rattle.std.specs.Prelude.{ℕ, ℤ, pos, ◌+◌, ◌<◌, ◌≡◌, List, length, take, slice_get, Some}
use Rattle.std.specs.List.{AllByRecursion}
use Rattle.ta_linear.specs.Values.{point_of}
use Rattle.ta_automaton.specs.declared.automaton.Automaton.{Automaton}
use Rattle.ta_automaton.specs.Places.{location_place}
use Rattle.ta_counter.specs.Values.{Value}
use Rattle.ta_counter.specs.Configs.{places_of}

-- the first i counts stand at their places
pub record Filling (a : Automaton) (parameters counts values : List ℤ) (i : ℕ) : Type 0 where
  pub natural : AllByRecursion Value values
  pub places : length values ≡ places_of a
  pub parameters_first : take (length a.parameters) values ≡ parameters
  pub shared_zero : (x : ℕ) → x < length a.shared → point_of values (length a.parameters + x) ≡ pos 0
  pub counts_there : (j l : ℕ) → j < i → slice_get a.initial j ≡ Some l → point_of values (location_place a l) ≡ point_of counts j
  pub others_empty : (l : ℕ) → ((j : ℕ) → j < i → slice_get a.initial j ≡ Some l → ⊥) → point_of values (location_place a l) ≡ pos 0
