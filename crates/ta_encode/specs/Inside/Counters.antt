-- The counters of all locations at a moment, unknown by unknown.
use Rattle.std.specs.Prelude.{ℕ, ℤ, pos, ◌<◌, ◌≡◌, ◌≢◌, ◌⊎◌, List, [], ◌∷◌, ◌++◌, get_or, length, map}
use Rattle.ta_linear.specs.Numbers.{InRange}
use Rattle.ta_automaton.specs.Places.{location_place}
use Rattle.ta_automaton.specs.declared.automaton.Automaton.{Automaton}
use Rattle.ta_encode.specs.Unknowns.{Meaning, place_coefficient}
use Rattle.ta_encode.specs.Inside.Sparse.{Sparse}
use Rattle.ta_encode.specs.declared.counters.Counter.{Counter}

abbrev pub terms_in : Counter → List (ℕ × ℤ)
terms_in counter = counter.terms.items

-- the terms of a location's counter
abbrev pub terms_at : List Counter → ℕ → List (ℕ × ℤ)
terms_at counters l = get_or (map terms_in counters) l []

-- terms with one more of an unknown, unless its coefficient is 0
abbrev pub Gains : ℕ → ℤ → List (ℕ × ℤ) → List (ℕ × ℤ) → Type 0
Gains unknown z before after = ((z ≡ pos 0) × after ≡ before) ⊎ ((z ≢ pos 0) × InRange z × after ≡ before ++ (unknown, z) ∷ [])

-- what stands before an unknown in a location's counter
abbrev pub counter_coefficient : Automaton → ℕ → Meaning → ℤ
counter_coefficient a l m = place_coefficient a m (location_place a l)

-- the counters written in the first n unknowns
pub record AreCounters (a : Automaton) (ms : List Meaning) (n : ℕ) (counters : List Counter) : Type 0 where
  pub each : (l : ℕ) → l < length counters → Sparse (counter_coefficient a l) ms n (terms_at counters l)
