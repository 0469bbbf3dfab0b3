-- Rest: a deadlock, in which only self-loops are possible; and patterns in runs that come to rest.
use Rattle.std.specs.Prelude.{ℕ, ◌+◌, ◌<◌, ◌≡◌, List, length, slice_get, slice_index, Some, IsBitSet}
use Rattle.ta_automaton.specs.declared.automaton.Automaton.{Automaton}
use Rattle.ta_automaton.specs.declared.pattern.Event.{Event}
use Rattle.ta_automaton.specs.declared.pattern.Pattern.{Pattern}
use Rattle.ta_automaton.specs.Runs.{At, Config, Occurs, Step}

-- at rest: each possible step is that of a self-loop
abbrev pub AtRest : Automaton → Config → Type 0
AtRest a c = (r : ℕ) (next : Config) (step : Step a r c next) → step.rule.from ≡ step.rule.to

-- the pattern occurs in a run whose last configuration is good; if the pattern has events, its last event happens there
pub record ComesTo (good : Config → Type 0) (a : Automaton) (p : Pattern) (first : Config) (rules : List ℕ) : Type 0 where
  pub occurs : Occurs a p first rules
  pub at_end : (last : ℕ) → last + 1 ≡ length p.events → slice_index occurs.positions last ≡ length rules
  pub rests : (c : Config) → At first occurs.later (length rules) c → good c

-- the pattern occurs in a run that has come to rest
abbrev pub RestOccurs : Automaton → Pattern → Config → List ℕ → Type 0
RestOccurs a = ComesTo (AtRest a) a

-- the pattern occurs in no such run, for any admissible parameters and any number of steps
abbrev pub RestSafe : Automaton → Pattern → Type 0
RestSafe a p = (first : Config) (rules : List ℕ) → RestOccurs a p first rules → ⊥

-- the events of a pattern come only after events with lower numbers, as those of a file's patterns do
abbrev pub ComeAfterEarlier : Pattern → Type 0
ComeAfterEarlier p = (e : ℕ) (event : Event) → slice_get p.events e ≡ Some event → (f : ℕ) → IsBitSet event.after f → f < e
