-- The ending of a pattern: the same pattern, with its last event after all its other events.
use Rattle.std.specs.Prelude.{ℕ, ◌+◌, ◌-◌, ◌^◌, ◌≤◌, ◌≡◌, ◌⊎◌, List, [], ◌∷◌, ◌++◌, length, slice_get, Some}
use Rattle.std.proofs.Props.{props}
use Rattle.std.specs.List.{AllByRecursion, AllByRecursion-prop}
use Rattle.ta_automaton.specs.declared.pattern.Event.{Event}
use Rattle.ta_automaton.specs.declared.pattern.Pattern.{Pattern}

-- the mask of the events below a number
abbrev pub events_below : ℕ → ℕ
events_below number = 2 ^ number - 1

-- events whose last one is made to come after all others
pub record LastMoved (old new : List Event) : Type 0 where
  pub front : List Event
  pub last : Event
  pub moved : Event
  pub was : old ≡ front ++ last ∷ []
  pub is : new ≡ front ++ moved ∷ []
  pub name : moved.name ≡ last.name
  pub condition : moved.condition ≡ last.condition
  pub after : moved.after ≡ events_below (length front)

-- the bytes of `rest`
abbrev pub rest_name : List ℕ
rest_name = 114 ∷ 101 ∷ 115 ∷ 116 ∷ []

-- a pattern without events gets one event, which is named `rest` and has an empty condition
pub record RestAdded (old new : List Event) : Type 0 where
  pub none : old ≡ []
  pub event : Event
  pub is : new ≡ event ∷ []
  pub name : event.name ≡ rest_name
  pub after : event.after ≡ 0
  pub condition : event.condition.comparisons ≡ []

-- the ending of a pattern: the pattern itself with its last event made to come after all its other events; a pattern without events
-- gets one event named `rest` with an empty condition
pub record IsEnding (p ending : Pattern) : Type 0 where
  pub name : ending.name ≡ p.name
  pub start : ending.start ≡ p.start
  pub empty : ending.empty ≡ p.empty
  pub events : LastMoved p.events ending.events ⊎ RestAdded p.events ending.events

-- at most as many events as a pattern may have
abbrev pub FewEvents : Pattern → Type 0
FewEvents p = length p.events ≤ 8

-- the endings of patterns, one by one
abbrev pub Endings : List Pattern → List Pattern → Type 0
Endings [] [] = Unit {0}
Endings (p ∷ ps) (ending ∷ endings) = IsEnding p ending × Endings ps endings
Endings [] (ending ∷ endings) = ⊥
Endings (p ∷ ps) [] = ⊥

-- a pattern that has events, the last of which comes after all others, as in an ending
pub record ComesLast (p : Pattern) : Type 0 where
  pub some : 1 ≤ length p.events
  pub last : (e : ℕ) (event : Event) → e + 1 ≡ length p.events → slice_get p.events e ≡ Some event → event.after ≡ events_below e

ComesLast-prop : (p : Pattern) → IsProp (ComesLast p)
ComesLast-prop p = hlevel props

pub EachComesLast-prop : (ps : List Pattern) → IsProp (AllByRecursion ComesLast ps)
EachComesLast-prop ps = AllByRecursion-prop ComesLast ComesLast-prop ps
