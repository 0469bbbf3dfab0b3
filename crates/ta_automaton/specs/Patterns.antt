-- What the types of an event, a pattern and a file keep: what they refer to exists.
use Rattle.std.specs.Prelude.{ℕ, ◌+◌, ◌<◌, ◌≤◌, ◌^◌, List, length, map}
use Rattle.std.proofs.Props.{props}
use Rattle.std.specs.List.{AllByRecursion, AllByRecursion-prop}
use Rattle.ta_automaton.specs.declared.automaton.Automaton.{Automaton}
use Rattle.ta_automaton.specs.declared.pattern.Event.{Event}
use Rattle.ta_automaton.specs.declared.pattern.Pattern.{Pattern}
use Rattle.ta_base.specs.Lists.{EachFrom, EachFrom-prop, Distinct, Distinct-prop}
use Rattle.ta_automaton.specs.Names.{Name, Name-prop}
use Rattle.ta_automaton.specs.Forms.{ConditionOver, ConditionOver-prop}

-- the event with this number: it comes after earlier events only
pub record EventWithin (places : ℕ) (number : ℕ) (event : Event) : Type 0 where
  pub name : Name event.name
  pub after : event.after < 2 ^ number
  pub condition : ConditionOver places event.condition

EventWithin-prop : (places number : ℕ) (event : Event) → IsProp (EventWithin places number event)
EventWithin-prop places number event = hlevel (props, Name-prop event.name, ConditionOver-prop places event.condition)

-- the name of an event
abbrev pub event_name : Event → List ℕ
event_name event = event.name

-- a pattern over an automaton's places, with a mask of existing locations
pub record PatternWithin (places locations : ℕ) (pattern : Pattern) : Type 0 where
  pub name : Name pattern.name
  pub start : ConditionOver places pattern.start
  pub empty : pattern.empty < 2 ^ locations
  pub events_limit : length pattern.events ≤ 8
  pub events : EachFrom (EventWithin places) 0 pattern.events
  pub events_distinct : Distinct (map event_name pattern.events)

pub PatternWithin-prop : (places locations : ℕ) (pattern : Pattern) → IsProp (PatternWithin places locations pattern)
PatternWithin-prop places locations pattern =
    hlevel (
      props,
      Name-prop pattern.name,
      ConditionOver-prop places pattern.start,
      EachFrom-prop (EventWithin places) (EventWithin-prop places) 0
          pattern.events,
      Distinct-prop (map event_name pattern.events),
    )

-- a pattern of an automaton
abbrev pub PatternOver : Automaton → Pattern → Type 0
PatternOver a p = PatternWithin (length a.parameters + length a.shared + length a.locations) (length a.locations) p

-- the name of a pattern
abbrev pub pattern_name : Pattern → List ℕ
pattern_name pattern = pattern.name

-- the patterns of a file
pub record PatternsShape (places locations : ℕ) (patterns : List Pattern) : Type 0 where
  pub limit : length patterns ≤ 64
  pub within : AllByRecursion (PatternWithin places locations) patterns
  pub distinct : Distinct (map pattern_name patterns)

pub PatternsShape-prop : (places locations : ℕ) (patterns : List Pattern) → IsProp (PatternsShape places locations patterns)
PatternsShape-prop places locations patterns =
    hlevel (
      props,
      AllByRecursion-prop (PatternWithin places locations) (PatternWithin-prop places locations) patterns,
      Distinct-prop
          (map pattern_name patterns),
    )
