-- What the type of a tree keeps, in the words of the grammar and of the limits.
use Rattle.ta_syntax.proofs.Common.{ℕ, ◌≤◌, List, [], ◌∷◌, length, map, arith, short_map, IsNameText, IsSome, IsComparison, IsUpdate, IsRule, IsEvent}
use Rattle.ta_syntax.proofs.Common.{IsPattern, IsTree, plain_name, plain_comparison, plain_location, plain_update, plain_rule, plain_event, plain_pattern}
use Rattle.ta_syntax.proofs.Common.{plain_tree, at_start, IsShallow, IsRuleWithin, IsEventWithin, IsPatternWithin, IsTreeWithin, AreTokens, ScanStops, FileText}
use Rattle.ta_syntax.proofs.Common.{IsStopped, FirstGrammarFault, IsSpelled, IsTreeOf, Spelled, TreeComparison, TreeUpdate, TreeRule, TreeEvent, TreePattern}
use Rattle.ta_syntax.proofs.Common.{Tree, Token, FileFault, each_map_all, subst, StaysWithin, Limits}
use Rattle.ta_base.specs.LimitRows.{wide}
use Rattle.ta_syntax.proofs.Answered.{tree_limits}
use Rattle.ta_syntax.specs.declared.fault.FileFault.TheVariants as fault

some_map : {A B : Type 0} (g : A → B) (xs : List A) → 1 ≤ length xs → IsSome (map g xs)
some_map g [] h = absurd (omega arith)
some_map g (x ∷ xs) h = tt

name_legal : (n : Spelled) → IsNameText (plain_name n)
name_legal n = n.legal

comparison_legal : (x : TreeComparison) → IsComparison (plain_comparison x)
comparison_legal x = record { left = x.is_left; right = x.is_right }

comparison_shallow : (x : TreeComparison) → IsShallow (plain_comparison x)
comparison_shallow x = record { left = x.shallow_left; right = x.shallow_right }

update_legal : (u : TreeUpdate) → IsUpdate (plain_update u)
update_legal u = record { name = u.name.legal; amount = u.amount.legal }

rule_legal : (r : TreeRule) → IsRule (plain_rule r)
rule_legal r = record {
  name = r.name.legal;
  from = r.from.legal;
  to = r.to.legal;
  guards = each_map_all IsComparison plain_comparison r.guards
      comparison_legal;
  updates = each_map_all IsUpdate plain_update r.updates update_legal;
}

rule_within : (r : TreeRule) → IsRuleWithin (plain_rule r)
rule_within r = record {
  guards = short_map plain_comparison r.guards 16 r.few_guards;
  shallow = each_map_all IsShallow plain_comparison r.guards
      comparison_shallow;
  updates = short_map plain_update r.updates 16 r.few_updates;
}

event_legal : (e : TreeEvent) → IsEvent (plain_event e)
event_legal e = record {
  name = e.name.legal;
  after = each_map_all IsNameText plain_name e.after name_legal;
  some = some_map plain_comparison e.condition
      e.some;
  condition = each_map_all IsComparison plain_comparison e.condition comparison_legal;
}

event_within : (e : TreeEvent) → IsEventWithin (plain_event e)
event_within e = record {
  after = short_map plain_name e.after 8 e.few_after;
  condition = short_map plain_comparison e.condition 16 e.few;
  shallow =
      each_map_all IsShallow plain_comparison e.condition comparison_shallow;
}

pattern_legal : (p : TreePattern) → IsPattern (plain_pattern p)
pattern_legal p = record {
  name = p.name.legal;
  start = each_map_all IsComparison plain_comparison p.start comparison_legal;
  empty = each_map_all IsNameText
      plain_name p.empty name_legal;
  events = each_map_all IsEvent plain_event p.events event_legal;
}

pattern_within : (p : TreePattern) → IsPatternWithin wide (plain_pattern p)
pattern_within p = record {
  start = short_map plain_comparison p.start 16 p.few_start;
  shallow = each_map_all IsShallow plain_comparison p.start
      comparison_shallow;
  empty = short_map plain_name p.empty 128 p.few_empty;
  events = short_map plain_event p.events 8 p.few_events;
  each_event = each_map_all
      IsEventWithin plain_event p.events event_within;
}

pub tree_legal : (t : Tree) → IsTree (plain_tree t)
tree_legal t = record {
  name = t.name.legal;
  parameters = each_map_all IsNameText plain_name t.parameters name_legal;
  shared = each_map_all IsNameText plain_name t.shared name_legal;
  some = some_map plain_location t.locations t.some_locations;
  locations = each_map_all (λ l. IsNameText l.name) plain_location t.locations (λ l. l.name.legal);
  processes = t.is_processes;
  resilience = each_map_all IsComparison plain_comparison t.resilience comparison_legal;
  rules = each_map_all IsRule plain_rule t.rules rule_legal;
  patterns = each_map_all IsPattern plain_pattern t.patterns pattern_legal;
}

pub tree_within : (t : Tree) → IsTreeWithin wide (plain_tree t)
tree_within t = record {
  parameters = short_map plain_name t.parameters 32 t.few_parameters;
  shared = short_map plain_name t.shared 64 t.few_shared;
  locations = short_map plain_location t.locations 128 t.few_locations;
  processes = t.shallow_processes;
  resilience = short_map plain_comparison t.resilience 16 t.few_resilience;
  shallow = each_map_all IsShallow plain_comparison t.resilience comparison_shallow;
  rules = short_map plain_rule t.rules 1024 t.few_rules;
  each_rule = each_map_all IsRuleWithin plain_rule t.rules rule_within;
  patterns = short_map plain_pattern t.patterns 64 t.few_patterns;
  each_pattern = each_map_all (IsPatternWithin wide) plain_pattern t.patterns pattern_within;
}

-- ---- reading bytes
pub tree_read : (l : Limits) (bytes : List ℕ) (tokens : List Token) (t : Tree) → AreTokens bytes tokens → IsSpelled l t tokens → IsTreeOf l bytes t
tree_read l bytes tokens t are s = record {
  tokens = tokens;
  are = are;
  spelled = s.spelled;
  placed = s.placed;
  legal = tree_legal t;
  within = tree_limits l (plain_tree t) (tree_legal t) (subst (StaysWithin l at_start) s.spelled s.within);
}

pub scan_fault : (l : Limits) (bytes : List ℕ) (e : FileFault) → ScanStops bytes e → FirstGrammarFault l bytes e
scan_fault l bytes fault.Memory h = tt
scan_fault l bytes (fault.Byte at) h = h
scan_fault l bytes _ h = absurd h

pub file_fault : (l : Limits) (bytes : List ℕ) (tokens : List Token) (e : FileFault) → AreTokens bytes tokens
    → IsStopped l FileText at_start (length bytes) tokens e → FirstGrammarFault l bytes e
file_fault l bytes tokens fault.Memory are h = tt
file_fault l bytes tokens (fault.Syntax at) are h = record { tokens = tokens; are = are; stopped = h }
file_fault l bytes tokens (fault.TooDeep at) are h = record { tokens = tokens; are = are; stopped = h }
file_fault l bytes tokens (fault.TooMany at) are h = record { tokens = tokens; are = are; stopped = h }
file_fault l bytes tokens _ are h = absurd h
