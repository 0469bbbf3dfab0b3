-- Comparisons, rules, events, patterns and trees with the same text that are placed on the same tokens are the same.
use Rattle.ta_meaning.proofs.Common.{◌≡◌, Bool, true, false, List, [], ◌∷◌, ◌++◌, sym, ap, subst, append-nil, PlainComparison, PlainLocation, PlainUpdate}
use Rattle.ta_meaning.proofs.Common.{PlainRule, PlainEvent, PlainPattern, PlainTree, listed, led, ended, each, plain_name, plain_location, plain_update}
use Rattle.ta_meaning.proofs.Common.{plain_comparison, plain_rule, plain_event, plain_pattern, plain_tree, Offsets, unplaced, at_first, sum_stated, name_stated}
use Rattle.ta_meaning.proofs.Common.{initial_stated, location_stated, comparison_stated, update_stated, rule_stated, event_stated, pattern_stated, tree_stated}
use Rattle.ta_meaning.proofs.Common.{TreeComparison, TreeRule, TreeEvent, TreePattern, Tree, Pairwise}
use Rattle.ta_base.proofs.Pairwise.{pairwise-equal}
use Rattle.ta_meaning.proofs.StartedParts.{starts-append, sum-starts}
use Rattle.ta_meaning.proofs.OneSum.{spelled-same, digits-same, SameSum, same_sum-plain, same_sum-stated, one-sum}
use Rattle.ta_meaning.proofs.SameOffsets.{Agree, same-first, agree-both, at_first-agree, IsOnce, listed-once, led-once, ended-once, each-once, listed-stated}
use Rattle.ta_meaning.proofs.SameOffsets.{led-stated, ended-stated, each-stated}
use Rattle.ta_syntax.specs.declared.tokens.Mark.TheVariants as mark

abbrev Equal : {A : Type 0} → A → A → Type 0
Equal a b = a ≡ b

-- ---- names, locations, updates

name-once : IsOnce plain_name name_stated Equal
name-once = record { once = λ a b x y e h. (spelled-same a b e (same-first a.at b.at [] [] h.0), h.1) }

initial-agree : (i j : Bool) (x y : List Offsets) → i ≡ j → Agree (initial_stated i ++ x) (initial_stated j ++ y) → Agree x y
initial-agree true true x y e h = h.1
initial-agree true false x y e h = absurd cc
initial-agree false true x y e h = absurd cc
initial-agree false false x y e h = h

location-once : IsOnce plain_location location_stated Equal
location-once = record {
  once = λ a b x y e h.
      let name = spelled-same a.name b.name (ap (λ (l : PlainLocation). l.name) e) (same-first a.name.at b.name.at [] [] h.0) in
      let initial = ap (λ (l : PlainLocation). l.initial) e in
      ((λ i. record { name = name i; initial = initial i }), initial-agree a.initial b.initial x y initial h.1);
}

update-once : IsOnce plain_update update_stated Equal
update-once = record {
  once = λ a b x y e h.
      let name = spelled-same a.name b.name (ap (λ (u : PlainUpdate). u.name) e) (same-first a.name.at b.name.at [] [] h.0) in
      let amount = digits-same a.amount b.amount (ap (λ (u : PlainUpdate). u.amount) e) (same-first a.amount.at b.amount.at [] [] h.1.1.0) in
      ((λ i. record { name = name i; amount = amount i }), h.1.1.1);
}

-- ---- comparisons

pub record SameComparison (a b : TreeComparison) : Type 0 where
  pub at : a.at ≡ b.at
  pub left : SameSum a.left b.left
  pub relation : a.relation ≡ b.relation
  pub right : SameSum a.right b.right

comparison-once : IsOnce plain_comparison comparison_stated SameComparison
comparison-once = record {
  once = λ a b x y e h.
      let start = at_first-agree a.at b.at (sum_stated a.left ++ [] ∷ sum_stated a.right) (sum_stated b.left ++ [] ∷ sum_stated b.right) x y
      (starts-append (sum_stated a.left) ([] ∷ sum_stated a.right) (sum-starts a.left a.is_left))
      (starts-append (sum_stated b.left) ([] ∷ sum_stated b.right) (sum-starts b.left b.is_left)) h in
      let left = one-sum a.left b.left ([] ∷ (sum_stated a.right ++ x)) ([] ∷ (sum_stated b.right ++ y)) (ap (λ (c : PlainComparison). c.left) e) a.is_left
      b.is_left (agree-both (sum_stated a.left) ([] ∷ sum_stated a.right) x (sum_stated b.left) ([] ∷ sum_stated b.right) y start.others) in
      let right = one-sum a.right b.right x y (ap (λ (c : PlainComparison). c.right) e) a.is_right b.is_right left.1.1 in
      (record { at = start.first; left = left.0; relation = ap (λ (c : PlainComparison). c.relation) e; right = right.0 }, right.1);
}

pub same_comparison-plain : (a b : TreeComparison) → SameComparison a b → plain_comparison a ≡ plain_comparison b
same_comparison-plain a b h = λ i. record
    { left = same_sum-plain a.left b.left h.left i; relation = h.relation i; right = same_sum-plain a.right b.right h.right i }

comparison-stated : (a b : TreeComparison) → SameComparison a b → comparison_stated a ≡ comparison_stated b
comparison-stated a b h = λ i. at_first (h.at i) (same_sum-stated a.left b.left h.left i ++ [] ∷ same_sum-stated a.right b.right h.right i)

-- ---- rules

pub record SameRule (a b : TreeRule) : Type 0 where
  pub name : a.name ≡ b.name
  pub from : a.from ≡ b.from
  pub to : a.to ≡ b.to
  pub guards : Pairwise SameComparison a.guards b.guards
  pub updates : a.updates ≡ b.updates

abbrev do_stated : TreeRule → List Offsets
do_stated r = led unplaced mark.Do update_stated r.updates

abbrev when_stated : TreeRule → List Offsets
when_stated r = led unplaced mark.When comparison_stated r.guards

rule-once : IsOnce plain_rule rule_stated SameRule
rule-once = record {
  once = λ a b x y e h.
      let name = spelled-same a.name b.name (ap (λ (r : PlainRule). r.name) e) (same-first a.name.at b.name.at [] [] h.1.0) in
      let from = spelled-same a.from b.from (ap (λ (r : PlainRule). r.from) e) (same-first a.from.at b.from.at [] [] h.1.1.1.0) in
      let to = spelled-same a.to b.to (ap (λ (r : PlainRule). r.to) e) (same-first a.to.at b.to.at [] [] h.1.1.1.1.1.0) in
      let guards = led-once mark.When plain_comparison comparison_stated SameComparison comparison-once a.guards b.guards ((do_stated a ++ [] ∷ []) ++ x)
      ((do_stated b ++ [] ∷ []) ++ y) (ap (λ (r : PlainRule). r.guards) e)
      (agree-both (when_stated a) (do_stated a ++ [] ∷ []) x (when_stated b) (do_stated b ++ [] ∷ []) y h.1.1.1.1.1.1) in
      let updates = led-once mark.Do plain_update update_stated Equal update-once a.updates b.updates ([] ∷ x) ([] ∷ y) (ap (λ (r : PlainRule). r.updates) e)
      (agree-both (do_stated a) ([] ∷ []) x (do_stated b) ([] ∷ []) y guards.1) in
      (record { name = name; from = from; to = to; guards = guards.0; updates = pairwise-equal a.updates b.updates updates.0 }, updates.1.1);
}

rule-stated : (a b : TreeRule) → SameRule a b → rule_stated a ≡ rule_stated b
rule-stated a b h =
    λ i. [] ∷ ((h.name i).at ∷ []) ∷ [] ∷ ((h.from i).at ∷ []) ∷ [] ∷ ((h.to i).at ∷ []) ∷
    (led-stated mark.When comparison_stated SameComparison comparison-stated a.guards b.guards h.guards i
    ++ (led unplaced mark.Do update_stated (h.updates i) ++ [] ∷ []))

-- ---- events and patterns

pub record SameEvent (a b : TreeEvent) : Type 0 where
  pub name : a.name ≡ b.name
  pub after : a.after ≡ b.after
  pub condition : Pairwise SameComparison a.condition b.condition

abbrev after_stated : TreeEvent → List Offsets
after_stated e = led unplaced mark.After name_stated e.after

abbrev condition_stated : TreeEvent → List Offsets
condition_stated e = listed unplaced comparison_stated e.condition

event-once : IsOnce plain_event event_stated SameEvent
event-once = record {
  once = λ a b x y e h.
      let name = spelled-same a.name b.name (ap (λ (v : PlainEvent). v.name) e) (same-first a.name.at b.name.at [] [] h.1.0) in
      let after = led-once mark.After plain_name name_stated Equal name-once a.after b.after ([] ∷ ((condition_stated a ++ [] ∷ []) ++ x))
      ([] ∷ ((condition_stated b ++ [] ∷ []) ++ y)) (ap (λ (v : PlainEvent). v.after) e)
      (agree-both (after_stated a) ([] ∷ (condition_stated a ++ [] ∷ [])) x (after_stated b) ([] ∷ (condition_stated b ++ [] ∷ [])) y h.1.1) in
      let condition = listed-once plain_comparison comparison_stated SameComparison comparison-once a.condition b.condition ([] ∷ x) ([] ∷ y)
      (ap (λ (v : PlainEvent). v.condition) e) (agree-both (condition_stated a) ([] ∷ []) x (condition_stated b) ([] ∷ []) y after.1.1) in
      (record { name = name; after = pairwise-equal a.after b.after after.0; condition = condition.0 }, condition.1.1);
}

event-stated : (a b : TreeEvent) → SameEvent a b → event_stated a ≡ event_stated b
event-stated a b h =
    λ i. [] ∷ ((h.name i).at ∷ []) ∷
    (led unplaced mark.After name_stated (h.after i)
    ++ [] ∷ (listed-stated comparison_stated SameComparison comparison-stated a.condition b.condition h.condition i ++ [] ∷ []))

pub record SamePattern (a b : TreePattern) : Type 0 where
  pub name : a.name ≡ b.name
  pub start : Pairwise SameComparison a.start b.start
  pub empty : a.empty ≡ b.empty
  pub events : Pairwise SameEvent a.events b.events

abbrev start_stated : TreePattern → List Offsets
start_stated p = ended unplaced mark.Start comparison_stated p.start

abbrev empty_stated : TreePattern → List Offsets
empty_stated p = ended unplaced mark.Empty name_stated p.empty

abbrev events_stated : TreePattern → List Offsets
events_stated p = each event_stated p.events

pattern-once : IsOnce plain_pattern pattern_stated SamePattern
pattern-once = record {
  once = λ a b x y e h.
      let name = spelled-same a.name b.name (ap (λ (v : PlainPattern). v.name) e) (same-first a.name.at b.name.at [] [] h.1.0) in
      let start = ended-once mark.Start plain_comparison comparison_stated SameComparison comparison-once a.start b.start
      ((empty_stated a ++ (events_stated a ++ [] ∷ [])) ++ x) ((empty_stated b ++ (events_stated b ++ [] ∷ [])) ++ y) (ap (λ (v : PlainPattern). v.start) e)
      (agree-both (start_stated a) (empty_stated a ++ (events_stated a ++ [] ∷ [])) x (start_stated b) (empty_stated b ++ (events_stated b ++ [] ∷ [])) y
      h.1.1.1) in
      let empty = ended-once mark.Empty plain_name name_stated Equal name-once a.empty b.empty ((events_stated a ++ [] ∷ []) ++ x)
      ((events_stated b ++ [] ∷ []) ++ y) (ap (λ (v : PlainPattern). v.empty) e)
      (agree-both (empty_stated a) (events_stated a ++ [] ∷ []) x (empty_stated b) (events_stated b ++ [] ∷ []) y start.1) in
      let events = each-once plain_event event_stated SameEvent event-once a.events b.events ([] ∷ x) ([] ∷ y) (ap (λ (v : PlainPattern). v.events) e)
      (agree-both (events_stated a) ([] ∷ []) x (events_stated b) ([] ∷ []) y empty.1) in
      (record { name = name; start = start.0; empty = pairwise-equal a.empty b.empty empty.0; events = events.0 }, events.1.1);
}

pattern-stated : (a b : TreePattern) → SamePattern a b → pattern_stated a ≡ pattern_stated b
pattern-stated a b h =
    λ i. [] ∷ ((h.name i).at ∷ []) ∷ [] ∷
    (ended-stated mark.Start comparison_stated SameComparison comparison-stated a.start b.start h.start i
    ++ (ended unplaced mark.Empty name_stated (h.empty i) ++ (each-stated event_stated SameEvent event-stated a.events b.events h.events i ++ [] ∷ [])))

-- ---- trees

pub record SameParts (t u : Tree) : Type 0 where
  pub name : t.name ≡ u.name
  pub parameters : t.parameters ≡ u.parameters
  pub shared : t.shared ≡ u.shared
  pub locations_at : t.locations_at ≡ u.locations_at
  pub locations : t.locations ≡ u.locations
  pub processes_at : t.processes_at ≡ u.processes_at
  pub processes : SameSum t.processes u.processes
  pub resilience : Pairwise SameComparison t.resilience u.resilience
  pub rules : Pairwise SameRule t.rules u.rules
  pub patterns : Pairwise SamePattern t.patterns u.patterns

abbrev rules_stated : Tree → List Offsets
rules_stated t = each rule_stated t.rules

abbrev patterns_stated : Tree → List Offsets
patterns_stated t = each pattern_stated t.patterns

abbrev from_resilience : Tree → List Offsets
from_resilience t = listed unplaced comparison_stated t.resilience ++ [] ∷ (rules_stated t ++ patterns_stated t)

abbrev from_processes : Tree → List Offsets
from_processes t = at_first t.processes_at (sum_stated t.processes) ++ [] ∷ [] ∷ from_resilience t

abbrev from_locations : Tree → List Offsets
from_locations t = listed unplaced location_stated t.locations ++ [] ∷ [] ∷ from_processes t

abbrev from_shared : Tree → List Offsets
from_shared t = listed unplaced name_stated t.shared ++ [] ∷ (t.locations_at ∷ []) ∷ from_locations t

pub tree-once : (t u : Tree) → plain_tree t ≡ plain_tree u → Agree (tree_stated t) (tree_stated u) → SameParts t u
tree-once t u e h =
    let name = spelled-same t.name u.name (ap (λ (z : PlainTree). z.name) e) (same-first t.name.at u.name.at [] [] h.1.0) in
    let parameters = listed-once plain_name name_stated Equal name-once t.parameters u.parameters ([] ∷ [] ∷ from_shared t) ([] ∷ [] ∷ from_shared u)
    (ap (λ (z : PlainTree). z.parameters) e) h.1.1.1.1 in
    let shared = listed-once plain_name name_stated Equal name-once t.shared u.shared ([] ∷ (t.locations_at ∷ []) ∷ from_locations t)
    ([] ∷ (u.locations_at ∷ []) ∷ from_locations u) (ap (λ (z : PlainTree). z.shared) e) parameters.1.1.1 in
    let locations = listed-once plain_location location_stated Equal location-once t.locations u.locations ([] ∷ [] ∷ from_processes t)
    ([] ∷ [] ∷ from_processes u) (ap (λ (z : PlainTree). z.locations) e) shared.1.1.1 in
    let start = at_first-agree t.processes_at u.processes_at (sum_stated t.processes) (sum_stated u.processes) ([] ∷ [] ∷ from_resilience t)
    ([] ∷ [] ∷ from_resilience u) (sum-starts t.processes t.is_processes) (sum-starts u.processes u.is_processes) locations.1.1.1 in
    let processes = one-sum t.processes u.processes ([] ∷ [] ∷ from_resilience t) ([] ∷ [] ∷ from_resilience u) (ap (λ (z : PlainTree). z.processes) e)
    t.is_processes u.is_processes start.others in
    let resilience = listed-once plain_comparison comparison_stated SameComparison comparison-once t.resilience u.resilience
    ([] ∷ (rules_stated t ++ patterns_stated t)) ([] ∷ (rules_stated u ++ patterns_stated u)) (ap (λ (z : PlainTree). z.resilience) e) processes.1.1.1 in
    let rules = each-once plain_rule rule_stated SameRule rule-once t.rules u.rules (patterns_stated t) (patterns_stated u) (ap (λ (z : PlainTree). z.rules) e)
    resilience.1.1 in
    let left = subst (λ (z : List Offsets). Agree z (patterns_stated u)) (sym (append-nil (patterns_stated t))) rules.1 in
    let both = subst (λ (z : List Offsets). Agree (patterns_stated t ++ []) z) (sym (append-nil (patterns_stated u))) left in
    let patterns = each-once plain_pattern pattern_stated SamePattern pattern-once t.patterns u.patterns [] [] (ap (λ (z : PlainTree). z.patterns) e) both in
    record {
      name = name;
      parameters = pairwise-equal t.parameters u.parameters parameters.0;
      shared = pairwise-equal t.shared u.shared shared.0;
      locations_at = same-first t.locations_at u.locations_at [] [] shared.1.1.0;
      locations = pairwise-equal t.locations u.locations locations.0;
      processes_at = start.first;
      processes = processes.0;
      resilience = resilience.0;
      rules = rules.0;
      patterns = patterns.0;
    }

pub tree-stated : (t u : Tree) → SameParts t u → tree_stated t ≡ tree_stated u
tree-stated t u h =
    λ i. [] ∷ ((h.name i).at ∷ []) ∷ [] ∷ [] ∷ (listed unplaced name_stated (h.parameters i)
    ++ [] ∷ [] ∷ (listed unplaced name_stated (h.shared i)
    ++ [] ∷ (h.locations_at i ∷ []) ∷ (listed unplaced location_stated (h.locations i)
    ++ [] ∷ [] ∷ (at_first (h.processes_at i) (same_sum-stated t.processes u.processes h.processes i)
    ++ [] ∷ [] ∷ (listed-stated comparison_stated SameComparison comparison-stated t.resilience u.resilience h.resilience i
    ++ [] ∷ (each-stated rule_stated SameRule rule-stated t.rules u.rules h.rules i
    ++ each-stated pattern_stated SamePattern pattern-stated t.patterns u.patterns h.patterns i))))))
