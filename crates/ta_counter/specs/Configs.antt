-- Configurations of the code, in 128 bits, and the configurations of the model that they stand for.
use Rattle.std.specs.Prelude.{ℕ, ℤ, ◌+◌, ◌≡◌, List, length, take, drop, map, unsigned_abs}
use Rattle.ta_base.specs.Sums.{total}
use Rattle.ta_linear.specs.Numbers.{InRange}
use Rattle.ta_linear.specs.Values.{point_of, value_of}
use Rattle.ta_automaton.specs.declared.automaton.Automaton.{Automaton}
use Rattle.ta_automaton.specs.Runs as runs
use Rattle.ta_counter.specs.declared.config.Config.{Config}

-- how many places an automaton has
abbrev pub places_of : Automaton → ℕ
places_of a = length a.parameters + length a.shared + length a.locations

-- the sum of numbers
abbrev pub sum_of : List ℤ → ℤ
sum_of values = total (λ z. z) values

-- natural numbers as such
abbrev pub naturals : List ℤ → List ℕ
naturals values = map unsigned_abs values

-- the counters among the values of all places
abbrev pub counters_of : Automaton → List ℤ → List ℤ
counters_of a values = drop (length a.parameters + length a.shared) values

-- the model's configuration with these values of the places
abbrev pub model_of : Automaton → List ℤ → runs.Config
model_of a values = record {
  parameters = naturals (take (length a.parameters) values);
  shared = naturals (take (length a.shared) (drop (length a.parameters) values));
  counters = naturals (counters_of a values);
}

abbrev pub config_of : Automaton → Config → runs.Config
config_of a c = model_of a c.values.items

-- one value for each place, and counters that add up to the number of processes, which is in range
pub record AreOf (a : Automaton) (values : List ℤ) : Type 0 where
  pub places : length values ≡ places_of a
  pub add_up : sum_of (counters_of a values) ≡ value_of (point_of values) a.processes
  pub fits : InRange (sum_of (counters_of a values))

-- a configuration is one of the automaton
abbrev pub IsOf : Automaton → Config → Type 0
IsOf a c = AreOf a c.values.items
