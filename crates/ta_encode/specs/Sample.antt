-- The sample system: whether some parameters meet the resilience condition and have an initial configuration.
use Rattle.std.specs.Prelude.{ℕ, ◌≡◌, List, [], ◌∷◌, ◌++◌, length, map, slice_index, take, None}
use Rattle.ta_automaton.specs.declared.automaton.Automaton.{Automaton}
use Rattle.std.specs.List.{range_with_len}
use Rattle.ta_automaton.specs.Runs.{Config, Initial}
use Rattle.ta_words.specs.declared.element.Element.{Element}
use Rattle.ta_encode.specs.Unknowns.{Meaning, Parameter, Start}
use Rattle.ta_encode.specs.System.{Bound, LinearRow, condition_rows, opposite, processes_row}
use Rattle.ta_encode.specs.Search.{Pending, Search, SolvesAt}

-- the unknowns: the parameters, and a start count for each initial location
unfoldable pub sample_meanings : Automaton → List Meaning
sample_meanings a = map Parameter (range_with_len 0 (length a.parameters)) ++ map Start a.initial

-- the rows: the resilience condition, and as many processes at the start as there are
unfoldable pub sample_rows : Automaton → List LinearRow
sample_rows a =
    condition_rows a (sample_meanings a) a.resilience.comparisons
    ++ (processes_row a (sample_meanings a) ∷ opposite (processes_row a (sample_meanings a)) ∷ [])

-- the empty schema of the search for a sample, with bounds
abbrev pub sampled : List Bound → Pending Element
sampled bounds = record { start = 0; past = []; bounds = bounds }

-- the search for a sample: that schema only, at which nothing is asked
abbrev pub sample_search : Automaton → Search Element
sample_search a = record {
  roots = sampled [] ∷ [];
  answers = λ start past n. None;
  question = λ start past values. None;
  scaled = λ w values. None;
  unknowns = λ start past. length (sample_meanings a);
  rows = λ start past. sample_rows a;
}

-- parameters of an initial configuration: they meet the resilience condition, and their number of processes can start
pub record HasStart (a : Automaton) (parameters : List ℕ) : Type 0 where
  pub first : Config
  pub initial : Initial a first
  pub are : first.parameters ≡ parameters

-- a solution begins with such parameters
abbrev pub SamplesStart : Type 0
SamplesStart = (a : Automaton) (vs : List ℕ) → SolvesAt (sample_search a) (sampled []) vs → HasStart a (take (length a.parameters) vs)

-- and an initial configuration gives a solution
abbrev pub StartsAreSampled : Type 0
StartsAreSampled = (a : Automaton) (first : Config) → Initial a first
    → SolvesAt (sample_search a) (sampled []) (first.parameters ++ map (slice_index first.counters) a.initial)
