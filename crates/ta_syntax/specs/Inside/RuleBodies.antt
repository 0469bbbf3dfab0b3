-- Rules, events and patterns after their keywords: their tokens, and the offsets that are stated for these.
use Rattle.std.specs.Prelude.{List, [], ◌∷◌, ◌++◌}
use Rattle.ta_syntax.specs.Grammar.{name_kinds, location_kinds, comparison_kinds, update_kinds, listed, led, ended, each}
use Rattle.ta_syntax.specs.PlainTrees.{plain_location, plain_comparison, plain_update}
use Rattle.ta_syntax.specs.Stated.{Offsets, unplaced, name_stated, comparison_stated, update_stated, event_stated}
use Rattle.ta_syntax.specs.Reading.{with_mark}
use Rattle.ta_syntax.specs.declared.tokens.Kind.{Kind}
use Rattle.ta_syntax.specs.declared.tokens.Kind.TheVariants as kind
use Rattle.ta_syntax.specs.declared.tokens.Mark.TheVariants as mark
use Rattle.ta_syntax.specs.declared.names.Spelled.{Spelled}
use Rattle.ta_syntax.specs.declared.tree.TreeComparison.{TreeComparison}
use Rattle.ta_syntax.specs.declared.tree.TreeLocation.{TreeLocation}
use Rattle.ta_syntax.specs.declared.tree.TreeUpdate.{TreeUpdate}
use Rattle.ta_syntax.specs.declared.tree.TreeRule.{TreeRule}
use Rattle.ta_syntax.specs.declared.tree.TreeEvent.{TreeEvent}
use Rattle.ta_syntax.specs.declared.tree.TreePattern.{TreePattern}

-- the tokens of a name
abbrev pub spell_name : Spelled → List Kind
spell_name n = name_kinds n.name

-- the tokens of a comparison
abbrev pub spell_comparison : TreeComparison → List Kind
spell_comparison x = comparison_kinds (plain_comparison x)

-- the tokens of a location
abbrev pub spell_location : TreeLocation → List Kind
spell_location l = location_kinds (plain_location l)

-- the tokens of an update
abbrev pub spell_update : TreeUpdate → List Kind
spell_update u = update_kinds (plain_update u)

-- the tokens of a rule after its keyword
abbrev pub rule_body : TreeRule → List Kind
rule_body r =
    kind.Name r.name.name ∷ kind.Fixed mark.Colon ∷ kind.Name r.from.name ∷ kind.Fixed mark.Arrow ∷ kind.Name r.to.name
    ∷ (led kind.Fixed mark.When spell_comparison r.guards ++ (led kind.Fixed mark.Do spell_update r.updates ++ kind.Fixed mark.Semicolon ∷ []))

-- the offsets that these tokens are stated to have
abbrev pub rule_body_stated : TreeRule → List Offsets
rule_body_stated r =
    (r.name.at ∷ []) ∷ [] ∷ (r.from.at ∷ []) ∷ [] ∷ (r.to.at ∷ [])
    ∷ (led unplaced mark.When comparison_stated r.guards ++ (led unplaced mark.Do update_stated r.updates ++ [] ∷ []))

-- the tokens of an event after its keyword
abbrev pub event_body : TreeEvent → List Kind
event_body e = kind.Name e.name.name ∷
    (led kind.Fixed mark.After spell_name e.after ++ kind.Fixed mark.Colon ∷ (listed kind.Fixed spell_comparison e.condition ++ kind.Fixed mark.Semicolon ∷ []))

-- the offsets that these tokens are stated to have
abbrev pub event_body_stated : TreeEvent → List Offsets
event_body_stated e = (e.name.at ∷ []) ∷ (led unplaced mark.After name_stated e.after ++ [] ∷ (listed unplaced comparison_stated e.condition ++ [] ∷ []))

-- the tokens of a pattern after its keyword
abbrev pub pattern_body : TreePattern → List Kind
pattern_body p =
    kind.Name p.name.name ∷ kind.Fixed mark.OpenBrace
    ∷ (ended kind.Fixed mark.Start spell_comparison p.start
    ++ (ended kind.Fixed mark.Empty spell_name p.empty
    ++ (each (with_mark (kind.Fixed mark.Event) event_body) p.events ++ kind.Fixed mark.CloseBrace ∷ [])))

-- the offsets that these tokens are stated to have
abbrev pub pattern_body_stated : TreePattern → List Offsets
pattern_body_stated p = (p.name.at ∷ []) ∷ [] ∷
    (ended unplaced mark.Start comparison_stated p.start ++ (ended unplaced mark.Empty name_stated p.empty ++ (each event_stated p.events ++ [] ∷ [])))
