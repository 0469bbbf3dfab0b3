-- A tree of the program without the offsets of its parts.
use Rattle.std.specs.Prelude.{ℕ, List, map}
use Rattle.ta_syntax.specs.Grammar.{PlainComparison, PlainLocation, PlainUpdate, PlainRule, PlainEvent, PlainPattern, PlainTree}
use Rattle.ta_syntax.specs.PlainSums.{plain_sum}
use Rattle.ta_syntax.specs.declared.names.Spelled.{Spelled}
use Rattle.ta_syntax.specs.declared.tree.TreeComparison.{TreeComparison}
use Rattle.ta_syntax.specs.declared.tree.TreeLocation.{TreeLocation}
use Rattle.ta_syntax.specs.declared.tree.TreeUpdate.{TreeUpdate}
use Rattle.ta_syntax.specs.declared.tree.TreeRule.{TreeRule}
use Rattle.ta_syntax.specs.declared.tree.TreeEvent.{TreeEvent}
use Rattle.ta_syntax.specs.declared.tree.TreePattern.{TreePattern}
use Rattle.ta_syntax.specs.declared.tree.Tree.{Tree}

-- a name without its offset
abbrev pub plain_name : Spelled → List ℕ
plain_name n = n.name

-- a comparison without offsets
abbrev pub plain_comparison : TreeComparison → PlainComparison
plain_comparison c = record { left = plain_sum c.left; relation = c.relation; right = plain_sum c.right }

-- a location without offsets
abbrev pub plain_location : TreeLocation → PlainLocation
plain_location l = record { name = l.name.name; initial = l.initial }

-- an update without offsets
abbrev pub plain_update : TreeUpdate → PlainUpdate
plain_update u = record { name = u.name.name; amount = u.amount.text }

-- a rule without offsets
abbrev pub plain_rule : TreeRule → PlainRule
plain_rule r = record { name = r.name.name; from = r.from.name; to = r.to.name; guards = map plain_comparison r.guards; updates = map plain_update r.updates }

-- an event without offsets
abbrev pub plain_event : TreeEvent → PlainEvent
plain_event e = record { name = e.name.name; after = map plain_name e.after; condition = map plain_comparison e.condition }

-- a pattern without offsets
abbrev pub plain_pattern : TreePattern → PlainPattern
plain_pattern p = record { name = p.name.name; start = map plain_comparison p.start; empty = map plain_name p.empty; events = map plain_event p.events }

-- a file without offsets
abbrev pub plain_tree : Tree → PlainTree
plain_tree t = record {
  name = t.name.name;
  parameters = map plain_name t.parameters;
  shared = map plain_name t.shared;
  locations = map plain_location t.locations;
  processes = plain_sum t.processes;
  resilience = map plain_comparison t.resilience;
  rules = map plain_rule t.rules;
  patterns = map plain_pattern t.patterns;
}
