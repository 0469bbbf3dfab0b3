-- What schemas of rest, their systems and their refutations say of runs.
use Rattle.std.specs.Prelude.{ℕ, ◌<◌, ◌≤◌, ◌^◌, ◌≡◌, ◌↔◌, true, List, [], length, map, take, slice_index, IsBitSet}
use Rattle.ta_automaton.specs.declared.automaton.Automaton.{Automaton}
use Rattle.ta_automaton.specs.declared.pattern.Pattern.{Pattern}
use Rattle.ta_automaton.specs.Places.{Whole}
use Rattle.ta_automaton.specs.Runs.{Config, InScope, LoopsPure, value_at}
use Rattle.ta_cert.specs.Tree.{Tree}
use Rattle.ta_words.specs.declared.element.Element.{Element}
use Rattle.ta_words.specs.Words.{LegalWord, is_complete}
use Rattle.ta_encode.specs.Laws.{WordFires, start_values, steps_of}
use Rattle.ta_encode.specs.Refutes.{IsLeaf, ProofBy}
use Rattle.ta_encode.specs.Search.{SolvesAt}
use Rattle.ta_encode.specs.System.{sum_of_products}
use Rattle.ta_encode.specs.Unknowns.{meanings, place_coefficient, start_meanings}
use Rattle.ta_rest.specs.Endings.{ComesLast, IsEnding}
use Rattle.ta_rest.specs.Rest.{AtRest, ComeAfterEarlier, RestOccurs, RestSafe}
use Rattle.ta_rest.specs.RestSearch.{rest_search}

-- a set of fall guards, a complete legal schema, and natural values that solve its system of rest
pub record RestSolved (a : Automaton) (p : Pattern) : Type 0 where
  pub start : ℕ
  pub is_start : start < 2 ^ length a.fall
  pub past : List Element
  pub legal : LegalWord a p start past
  pub complete : is_complete p past ≡ true
  pub values : List ℕ
  pub solves : SolvesAt (rest_search a p) (record { start = start; past = past; bounds = [] }) values

-- every run in which a pattern with events occurs and which comes to rest so, of any length and any number of processes, is described by a
-- schema whose system of rest it solves
abbrev pub RestingRunsSolve : Type 0
RestingRunsSolve =
    (a : Automaton) (p : Pattern) → ComeAfterEarlier p → 1 ≤ length p.events → LoopsPure a
    → (first : Config) (rules : List ℕ) → RestOccurs a p first rules
    → RestSolved a p

-- if all schemas of rest of a pattern with events are refuted, no run comes to rest so
abbrev pub RefutedEndingsRest : Type 0
RefutedEndingsRest =
    (a : Automaton) (p : Pattern) → ComeAfterEarlier p → 1 ≤ length p.events → LoopsPure a
    → (trees : List Tree) → ProofBy (rest_search a p) (IsLeaf (rest_search a p)) trees
    → RestSafe a p

-- some run in which a pattern occurs comes to rest so exactly if some run in which the pattern's ending occurs does
abbrev pub EndingsRestAlike : Type 0
EndingsRestAlike =
    (a : Automaton) (p ending : Pattern) → IsEnding p ending
    → (first : Config) (rules : List ℕ) → RestOccurs a p first rules ↔ RestOccurs a ending first rules

-- if all schemas of rest of a pattern's ending are refuted, no run in which the pattern occurs comes to rest so
abbrev pub RefutedEndingsShow : Type 0
RefutedEndingsShow =
    (a : Automaton) (p ending : Pattern) → IsEnding p ending → ComeAfterEarlier p → LoopsPure a
    → (trees : List Tree) → ProofBy (rest_search a ending) (IsLeaf (rest_search a ending)) trees
    → RestSafe a p

-- the pattern occurs in the run of unit steps for each element of a schema, from a configuration that has the parameters and the start
-- counts of an assignment, and the run comes to rest where the pattern's last event happens
pub record RestsThrough (a : Automaton) (p : Pattern) (values : List ℕ) (firings : List (List ℕ)) : Type 0 where
  pub first : Config
  pub begins : start_values a p first ≡ take (length (start_meanings a p)) values
  pub rests : RestOccurs a p first (steps_of firings)

-- natural values that solve the system of rest of a complete legal schema, for a pattern whose last event comes after all others: any unit
-- steps that go forward and are, for each element, those of its Counts and its Single make a run that comes to rest
abbrev pub StepsOfSolutionsRest : Type 0
StepsOfSolutionsRest =
    (a : Automaton) (p : Pattern) → ComeAfterEarlier p → ComesLast p
    → (s : RestSolved a p)
    → (firings : List (List ℕ)) → WordFires a p s.start s.past s.values firings
    → RestsThrough a p s.values firings

-- if no rule with an update is on a cycle, there are such steps, so some run comes to rest
abbrev pub SolutionsComeToRest : Type 0
SolutionsComeToRest =
    (a : Automaton) (p : Pattern) → ComeAfterEarlier p → ComesLast p → InScope a
    → RestSolved a p → ¬ RestSafe a p

-- a configuration that has the values of the end of such a schema, and keeps the pattern's `empty` locations empty, is at rest
abbrev pub EndsOfSolutionsRest : Type 0
EndsOfSolutionsRest =
    (a : Automaton) (p : Pattern) (s : RestSolved a p)
    → (c : Config) → Whole a c
    → ((i : ℕ) → value_at c i ≡ sum_of_products (map (λ m. place_coefficient a m i) (meanings a p s.start s.past)) s.values)
    → ((l : ℕ) → IsBitSet p.empty l → slice_index c.counters l ≡ 0)
    → AtRest a c
