-- What the resolver answers for an event and for a pattern, and which names are declared then.
use Rattle.std.specs.Prelude.{ℕ, ◌≡◌, ◌≤◌, List, [], ◌∷◌, ◌++◌, length, map}
use Rattle.ta_syntax.specs.Grammar.{PlainEvent, PlainPattern}
use Rattle.ta_syntax.specs.PlainTrees.{plain_name, plain_comparison}
use Rattle.ta_syntax.specs.declared.tree.TreeEvent.{TreeEvent}
use Rattle.ta_syntax.specs.declared.tree.TreePattern.{TreePattern}
use Rattle.ta_syntax.specs.declared.fault.FileFault.{FileFault}
use Rattle.ta_automaton.specs.declared.pattern.Event.{Event}
use Rattle.ta_automaton.specs.declared.pattern.Pattern.{Pattern}
use Rattle.ta_base.specs.Lists.{EachFrom, Distinct}
use Rattle.ta_automaton.specs.Patterns.{EventWithin, event_name, PatternWithin}
use Rattle.ta_meaning.specs.Names.{Names, all_names}
use Rattle.ta_meaning.specs.Meaning.{MeansEvent, MeansEvents, MeansPattern}
use Rattle.ta_meaning.specs.Faults.{declared_faults, condition_faults, listed_faults, in_conditions}
use Rattle.ta_meaning.specs.Inside.Resolved.{ResolvedCondition}
use Rattle.ta_meaning.specs.Inside.Listed.{ListedMask}
use Rattle.ta_meaning.specs.declared.patterns.EventParts.{EventParts}
use Rattle.ta_meaning.specs.declared.patterns.PatternHead.{PatternHead}

-- names with one more, which is none of them
pub record DeclaredNext (before : List (List ℕ)) (name : List ℕ) (names : List (List ℕ)) : Type 0 where
  pub next : names ≡ before ++ name ∷ []
  pub distinct : Distinct names

-- the event after those before it that an event of the text means
pub record ResolvedEvent (ns : Names) (before : List (List ℕ)) (plain : PlainEvent) (names : List (List ℕ)) (event : Event) : Type 0 where
  pub means : MeansEvent ns before plain event
  pub within : EventWithin (length (all_names ns)) (length before) event
  pub declared : DeclaredNext before plain.name names

-- the events of a pattern
pub record ResolvedEvents (ns : Names) (plain : List PlainEvent) (events : List Event) : Type 0 where
  pub means : MeansEvents ns [] plain events
  pub limit : length events ≤ 8
  pub within : EachFrom (EventWithin (length (all_names ns))) 0 events
  pub distinct : Distinct (map event_name events)

-- the pattern after those before it that a pattern of the text means
pub record ResolvedPattern (ns : Names) (before : List (List ℕ)) (plain : PlainPattern) (names : List (List ℕ)) (pattern : Pattern) : Type 0 where
  pub means : MeansPattern ns plain pattern
  pub within : PatternWithin (length (all_names ns)) (length ns.locations) pattern
  pub declared : DeclaredNext before plain.name names

-- the event with the name of a tree's event and these parts
abbrev pub event_of : TreeEvent → EventParts → Event
event_of e parts = record { name = e.name.name; after = parts.after; condition = parts.condition }

-- the errors of a pattern before its events
abbrev pub pattern_head_faults : Names → List (List ℕ) → TreePattern → List FileFault
pattern_head_faults ns before p =
    declared_faults before p.name
    ++ (condition_faults (in_conditions ns) p.start ++ listed_faults (all_names ns) ns.locations [] p.empty)

-- the start condition of a pattern, and the locations that it keeps empty
pub record PatternHeadOf (ns : Names) (p : TreePattern) (head : PatternHead) : Type 0 where
  pub start : ResolvedCondition (all_names ns) (map plain_comparison p.start) head.start
  pub empty : ListedMask ns.locations (map plain_name p.empty) head.empty
