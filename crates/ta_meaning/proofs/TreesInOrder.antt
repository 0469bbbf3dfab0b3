-- The errors of rules, events, patterns and of a whole tree rise within their tokens.
use Rattle.ta_meaning.proofs.Common.{Limits, ℕ, List, [], ◌∷◌, ◌++◌, length, map, refl, sym, append_assoc, listed, led, ended, each, plain_comparison, Offsets}
use Rattle.ta_meaning.proofs.Common.{unplaced, at_first, sum_stated, name_stated, initial_stated, location_stated, comparison_stated, update_stated}
use Rattle.ta_meaning.proofs.Common.{rule_stated, event_stated, pattern_stated, tree_stated, Spelled, TreeComparison, TreeLocation, TreeUpdate, TreeRule}
use Rattle.ta_meaning.proofs.Common.{TreeEvent, TreePattern, Tree, FileFault, has_name, Linear, comparison_rows, Names, guard_names, all_names, names_of}
use Rattle.ta_meaning.proofs.Common.{Guards, no_guards, is_no_threshold, is_one_more, Scope, where_, else_, is_long, declared_faults, declarations_faults}
use Rattle.ta_meaning.proofs.Common.{used_faults, listed_faults, digits_faults, comparison_faults, condition_faults, guard_faults, guards_faults, guards_with}
use Rattle.ta_meaning.proofs.Common.{in_parameters, in_guards, in_conditions, updates_faults, rule_faults, rules_faults, event_faults, events_faults}
use Rattle.ta_meaning.proofs.Common.{pattern_faults, patterns_faults, location_spelled, any_initial, processes_faults, meaning_faults, guards_then, not}
use Rattle.ta_meaning.proofs.InOrder.{InOrder, inside-name, one, either, along, together, after_token, before_tokens, Items, listed-in_order, led-in_order}
use Rattle.ta_meaning.proofs.InOrder.{ended-in_order, each-in_order}
use Rattle.ta_meaning.proofs.SumsInOrder.{token, declared-in_order, used-in_order, once-in_order, digits-in_order, whole_sum-in_order, inside-comparison}
use Rattle.ta_meaning.proofs.SumsInOrder.{comparison-in_order, condition-items}
use Rattle.ta_base.proofs.Lists.{five_parts}
use Rattle.ta_syntax.specs.declared.tokens.Mark.TheVariants as mark
use Rattle.ta_syntax.specs.declared.fault.FileFault.TheVariants as fault

-- ---- lists of names
names-items : (before : List (List ℕ)) (ns : List Spelled) → Items name_stated ns (declarations_faults before ns)
names-items before [] = refl
names-items before (n ∷ ns) =
    (declared_faults before n, declarations_faults (before ++ n.name ∷ []) ns, refl, declared-in_order before n, names-items (before ++ n.name ∷ []) ns)

locations-items : (before : List (List ℕ)) (ls : List TreeLocation) → Items location_stated ls (declarations_faults before (map location_spelled ls))
locations-items before [] = refl
locations-items before (l ∷ ls) = (
  declared_faults before l.name,
  declarations_faults (before ++ l.name.name ∷ []) (map location_spelled ls),
  refl,
  before_tokens (token l.name.at) (initial_stated l.initial) (declared_faults before l.name) (declared-in_order before l.name),
  locations-items (before ++ l.name.name ∷ []) ls,
)

used_names-items : (declared allowed before : List (List ℕ)) (ns : List Spelled) → Items name_stated ns (listed_faults declared allowed before ns)
used_names-items declared allowed before [] = refl
used_names-items declared allowed before (n ∷ ns) = (
  else_ (where_ (has_name before n.name) (fault.Duplicate n.at)) (used_faults declared allowed n),
  listed_faults declared allowed (before ++ n.name ∷ []) ns,
  refl,
  once-in_order (has_name before n.name) declared allowed n,
  used_names-items declared allowed (before ++ n.name ∷ []) ns,
)

-- ---- guards and updates
guard-in_order : (l : Limits) (parameters : ℕ) (s : Scope) (g : Guards) (c : TreeComparison) → InOrder (comparison_stated c) (guard_faults l parameters s g c)
guard-in_order l parameters s g c =
    let rows : List Linear = comparison_rows s.allowed (plain_comparison c) in
    let threshold : List FileFault = where_ (is_no_threshold parameters rows) (fault.NotThreshold c.at) in
    let many : List FileFault = where_ (is_one_more l parameters g rows) (fault.TooMany c.at) in
    either (comparison_stated c) (comparison_faults s c) (else_ threshold many) (comparison-in_order s c)
    (either (comparison_stated c) threshold many
    (one (comparison_stated c) (is_no_threshold parameters rows) (fault.NotThreshold c.at) tt (inside-comparison c))
    (one (comparison_stated c) (is_one_more l parameters g rows) (fault.TooMany c.at) tt (inside-comparison c)))

guards-items : (l : Limits) (parameters : ℕ) (s : Scope) (g : Guards) (cs : List TreeComparison)
    → Items comparison_stated cs (guards_faults l parameters s g cs)
guards-items l parameters s g [] = refl
guards-items l parameters s g (c ∷ cs) =
    let after : Guards = guards_then l parameters s g c in
    (guard_faults l parameters s g c, guards_faults l parameters s after cs, refl, guard-in_order l parameters s g c, guards-items l parameters s after cs)

abbrev updated_faults : Names → List (List ℕ) → TreeUpdate → List FileFault
updated_faults ns before u = else_ (where_ (has_name before u.name.name) (fault.Duplicate u.name.at)) (used_faults (all_names ns) ns.shared u.name)

update-in_order : (ns : Names) (before : List (List ℕ)) (u : TreeUpdate) → InOrder (update_stated u) (updated_faults ns before u ++ digits_faults u.amount)
update-in_order ns before u =
    together (token u.name.at) ([] ∷ token u.amount.at) (updated_faults ns before u) (digits_faults u.amount)
    (once-in_order (has_name before u.name.name) (all_names ns) ns.shared u.name)
    (after_token [] (token u.amount.at) (digits_faults u.amount) (digits-in_order u.amount))

updates-items : (ns : Names) (before : List (List ℕ)) (us : List TreeUpdate) → Items update_stated us (updates_faults ns before us)
updates-items ns before [] = refl
updates-items ns before (u ∷ us) = (
  updated_faults ns before u ++ digits_faults u.amount,
  updates_faults ns (before ++ u.name.name ∷ []) us,
  sym (append_assoc (updated_faults ns before u) (digits_faults u.amount) (updates_faults ns (before ++ u.name.name ∷ []) us)),
  update-in_order ns before u,
  updates-items ns (before ++ u.name.name ∷ []) us,
)

-- ---- rules
rule-in_order : (l : Limits) (ns : Names) (before : List (List ℕ)) (g : Guards) (r : TreeRule) → InOrder (rule_stated r) (rule_faults l ns before g r)
rule-in_order l ns before g r =
    let when : List Offsets = led unplaced mark.When comparison_stated r.guards in
    let do_ : List Offsets = led unplaced mark.Do update_stated r.updates in
    let name : List FileFault = declared_faults before r.name in
    let from : List FileFault = used_faults (all_names ns) ns.locations r.from in
    let to : List FileFault = used_faults (all_names ns) ns.locations r.to in
    let guards : List FileFault = guards_faults l (length ns.parameters) (in_guards ns) g r.guards in
    let updates : List FileFault = updates_faults ns [] r.updates in
    let clauses : InOrder (when ++ (do_ ++ [] ∷ [])) (guards ++ updates) =
    together when (do_ ++ [] ∷ []) guards updates
    (led-in_order mark.When comparison_stated r.guards guards (guards-items l (length ns.parameters) (in_guards ns) g r.guards))
    (before_tokens do_ ([] ∷ []) updates (led-in_order mark.Do update_stated r.updates updates (updates-items ns [] r.updates))) in
    let from_to : InOrder ((r.from.at ∷ []) ∷ [] ∷ (r.to.at ∷ []) ∷ (when ++ (do_ ++ [] ∷ []))) (from ++ (to ++ (guards ++ updates))) =
    together (token r.from.at) ([] ∷ (r.to.at ∷ []) ∷ (when ++ (do_ ++ [] ∷ []))) from (to ++ (guards ++ updates))
    (used-in_order (all_names ns) ns.locations r.from)
    (after_token [] ((r.to.at ∷ []) ∷ (when ++ (do_ ++ [] ∷ []))) (to ++ (guards ++ updates))
    (together (token r.to.at) (when ++ (do_ ++ [] ∷ [])) to (guards ++ updates) (used-in_order (all_names ns) ns.locations r.to) clauses)) in
    let steps : List Offsets = (r.from.at ∷ []) ∷ [] ∷ (r.to.at ∷ []) ∷ (when ++ (do_ ++ [] ∷ [])) in
    let moves : List FileFault = from ++ (to ++ (guards ++ updates)) in
    after_token [] ((r.name.at ∷ []) ∷ [] ∷ steps) (name ++ moves)
    (together (token r.name.at) ([] ∷ steps) name moves (declared-in_order before r.name) (after_token [] steps moves from_to))

rules-items : (l : Limits) (ns : Names) (before : List (List ℕ)) (g : Guards) (rs : List TreeRule) → Items rule_stated rs (rules_faults l ns before g rs)
rules-items l ns before g [] = refl
rules-items l ns before g (r ∷ rs) =
    let after : Guards = guards_with l (length ns.parameters) (in_guards ns) g r.guards in (
      rule_faults l ns before g r,
      rules_faults l ns (before ++ r.name.name ∷ []) after rs,
      refl,
      rule-in_order l ns before g r,
      rules-items l ns
          (before ++ r.name.name ∷ []) after rs,
    )

-- ---- patterns
event-in_order : (ns : Names) (before : List (List ℕ)) (e : TreeEvent) → InOrder (event_stated e) (event_faults ns before e)
event-in_order ns before e =
    let later : List Offsets = led unplaced mark.After name_stated e.after in
    let holds : List Offsets = listed unplaced comparison_stated e.condition in
    let after : List FileFault = listed_faults before before [] e.after in
    let condition : List FileFault = condition_faults (in_conditions ns) e.condition in
    let clauses : InOrder (later ++ [] ∷ (holds ++ [] ∷ [])) (after ++ condition) =
    together later ([] ∷ (holds ++ [] ∷ [])) after condition (led-in_order mark.After name_stated e.after after (used_names-items before before [] e.after))
    (after_token [] (holds ++ [] ∷ []) condition
    (before_tokens holds ([] ∷ []) condition (listed-in_order comparison_stated e.condition condition (condition-items (in_conditions ns) e.condition)))) in
    after_token [] ((e.name.at ∷ []) ∷ (later ++ [] ∷ (holds ++ [] ∷ []))) (declared_faults before e.name ++ (after ++ condition))
    (together (token e.name.at) (later ++ [] ∷ (holds ++ [] ∷ [])) (declared_faults before e.name) (after ++ condition) (declared-in_order before e.name)
    clauses)

events-items : (ns : Names) (before : List (List ℕ)) (es : List TreeEvent) → Items event_stated es (events_faults ns before es)
events-items ns before [] = refl
events-items ns before (e ∷ es) = (
  event_faults ns before e,
  events_faults ns (before ++ e.name.name ∷ []) es,
  refl,
  event-in_order ns before e,
  events-items ns (before ++ e.name.name ∷ [])
      es,
)

pattern-in_order : (ns : Names) (before : List (List ℕ)) (p : TreePattern) → InOrder (pattern_stated p) (pattern_faults ns before p)
pattern-in_order ns before p =
    let starts : List Offsets = ended unplaced mark.Start comparison_stated p.start in
    let empties : List Offsets = ended unplaced mark.Empty name_stated p.empty in
    let happen : List Offsets = each event_stated p.events in
    let start : List FileFault = condition_faults (in_conditions ns) p.start in
    let empty : List FileFault = listed_faults (all_names ns) ns.locations [] p.empty in
    let events : List FileFault = events_faults ns [] p.events in
    let clauses : InOrder (starts ++ (empties ++ (happen ++ [] ∷ []))) (start ++ (empty ++ events)) =
    together starts (empties ++ (happen ++ [] ∷ [])) start (empty ++ events)
    (ended-in_order mark.Start comparison_stated p.start start (condition-items (in_conditions ns) p.start))
    (together empties (happen ++ [] ∷ []) empty events
    (ended-in_order mark.Empty name_stated p.empty empty (used_names-items (all_names ns) ns.locations [] p.empty))
    (before_tokens happen ([] ∷ []) events (each-in_order event_stated p.events events (events-items ns [] p.events)))) in
    let body : List Offsets = starts ++ (empties ++ (happen ++ [] ∷ [])) in
    let inner : List FileFault = start ++ (empty ++ events) in
    after_token [] ((p.name.at ∷ []) ∷ [] ∷ body) (declared_faults before p.name ++ inner)
    (together (token p.name.at) ([] ∷ body) (declared_faults before p.name) inner (declared-in_order before p.name) (after_token [] body inner clauses))

patterns-items : (ns : Names) (before : List (List ℕ)) (ps : List TreePattern) → Items pattern_stated ps (patterns_faults ns before ps)
patterns-items ns before [] = refl
patterns-items ns before (p ∷ ps) = (
  pattern_faults ns before p,
  patterns_faults ns (before ++ p.name.name ∷ []) ps,
  refl,
  pattern-in_order ns before p,
  patterns-items ns
      (before ++ p.name.name ∷ []) ps,
)

-- ---- the file, from its end

-- what is stated from the keyword `processes` on, and the errors there
abbrev stated_from_processes : Tree → List Offsets
stated_from_processes t = [] ∷ (at_first t.processes_at (sum_stated t.processes)
    ++ [] ∷ [] ∷ (listed unplaced comparison_stated t.resilience ++ [] ∷ (each rule_stated t.rules ++ each pattern_stated t.patterns)))

abbrev faults_from_processes : Limits → Names → Tree → List FileFault
faults_from_processes l ns t = processes_faults ns t ++
    (condition_faults (in_parameters ns) t.resilience ++ (rules_faults l ns [] no_guards t.rules ++ patterns_faults ns [] t.patterns))

from_processes : (l : Limits) (ns : Names) (t : Tree) → InOrder (stated_from_processes t) (faults_from_processes l ns t)
from_processes l ns t =
    let rules : List FileFault = rules_faults l ns [] no_guards t.rules in
    let patterns : List FileFault = patterns_faults ns [] t.patterns in
    let resilience : List FileFault = condition_faults (in_parameters ns) t.resilience in
    let blocks : List Offsets = each rule_stated t.rules ++ each pattern_stated t.patterns in
    let conditions : List Offsets = listed unplaced comparison_stated t.resilience in
    let in_blocks : InOrder blocks (rules ++ patterns) =
    together (each rule_stated t.rules) (each pattern_stated t.patterns) rules patterns
    (each-in_order rule_stated t.rules rules (rules-items l ns [] no_guards t.rules))
    (each-in_order pattern_stated t.patterns patterns (patterns-items ns [] t.patterns)) in
    let in_conditions : InOrder (conditions ++ [] ∷ blocks) (resilience ++ (rules ++ patterns)) =
    together conditions ([] ∷ blocks) resilience (rules ++ patterns)
    (listed-in_order comparison_stated t.resilience resilience (condition-items (in_parameters ns) t.resilience))
    (after_token [] blocks (rules ++ patterns) in_blocks) in
    let sum : List Offsets = at_first t.processes_at (sum_stated t.processes) in
    after_token [] (sum ++ [] ∷ [] ∷ (conditions ++ [] ∷ blocks)) (faults_from_processes l ns t)
    (together sum ([] ∷ [] ∷ (conditions ++ [] ∷ blocks)) (processes_faults ns t) (resilience ++ (rules ++ patterns))
    (whole_sum-in_order (in_parameters ns) t.processes_at t.processes t.is_processes)
    (after_token [] ([] ∷ (conditions ++ [] ∷ blocks)) (resilience ++ (rules ++ patterns))
    (after_token [] (conditions ++ [] ∷ blocks) (resilience ++ (rules ++ patterns)) in_conditions)))

-- from the keyword `locations` on
abbrev stated_from_locations : Tree → List Offsets
stated_from_locations t = (t.locations_at ∷ []) ∷ (listed unplaced location_stated t.locations ++ [] ∷ stated_from_processes t)

abbrev faults_from_locations : Limits → Names → Tree → List FileFault
faults_from_locations l ns t =
    where_ (not (any_initial t.locations)) (fault.NoInitial t.locations_at)
    ++ (declarations_faults (guard_names ns) (map location_spelled t.locations) ++ faults_from_processes l ns t)

from_locations : (l : Limits) (ns : Names) (t : Tree) → InOrder (stated_from_locations t) (faults_from_locations l ns t)
from_locations l ns t =
    let names : List FileFault = declarations_faults (guard_names ns) (map location_spelled t.locations) in
    let stated : List Offsets = listed unplaced location_stated t.locations in
    let in_names : InOrder (stated ++ [] ∷ stated_from_processes t) (names ++ faults_from_processes l ns t) =
    together stated ([] ∷ stated_from_processes t) names (faults_from_processes l ns t)
    (listed-in_order location_stated t.locations names (locations-items (guard_names ns) t.locations))
    (after_token [] (stated_from_processes t) (faults_from_processes l ns t) (from_processes l ns t)) in
    together (token t.locations_at) (stated ++ [] ∷ stated_from_processes t) (where_ (not (any_initial t.locations)) (fault.NoInitial t.locations_at))
    (names ++ faults_from_processes l ns t)
    (one (token t.locations_at) (not (any_initial t.locations)) (fault.NoInitial t.locations_at) tt (inside-name t.locations_at)) in_names

-- a list of declared names, and what comes behind its semicolon and a keyword
declared-then : (before : List (List ℕ)) (ns : List Spelled) (s : List Offsets) (fs : List FileFault) → InOrder s fs
    → InOrder (listed unplaced name_stated ns ++ [] ∷ s) (declarations_faults before ns ++ fs)
declared-then before ns s fs h =
    together (listed unplaced name_stated ns) ([] ∷ s) (declarations_faults before ns) fs
    (listed-in_order name_stated ns (declarations_faults before ns) (names-items before ns)) (after_token [] s fs h)

abbrev stated_from_shared : Tree → List Offsets
stated_from_shared t = [] ∷ (listed unplaced name_stated t.shared ++ [] ∷ stated_from_locations t)

abbrev faults_from_shared : Limits → Names → Tree → List FileFault
faults_from_shared l ns t = declarations_faults ns.parameters t.shared ++ faults_from_locations l ns t

from_shared : (l : Limits) (ns : Names) (t : Tree) → InOrder (stated_from_shared t) (faults_from_shared l ns t)
from_shared l ns t =
    after_token [] (listed unplaced name_stated t.shared ++ [] ∷ stated_from_locations t) (faults_from_shared l ns t)
    (declared-then ns.parameters t.shared (stated_from_locations t) (faults_from_locations l ns t) (from_locations l ns t))

abbrev faults_from_name : Limits → Names → Tree → List FileFault
faults_from_name l ns t = where_ (is_long t.name) (fault.TooLarge t.name.at) ++ (declarations_faults [] t.parameters ++ faults_from_shared l ns t)

from_name : (l : Limits) (ns : Names) (t : Tree) → InOrder (tree_stated t) (faults_from_name l ns t)
from_name l ns t =
    let long : List FileFault = where_ (is_long t.name) (fault.TooLarge t.name.at) in
    let later : List FileFault = declarations_faults [] t.parameters ++ faults_from_shared l ns t in
    let stated : List Offsets = listed unplaced name_stated t.parameters ++ [] ∷ stated_from_shared t in
    after_token [] ((t.name.at ∷ []) ∷ [] ∷ [] ∷ stated) (long ++ later)
    (together (token t.name.at) ([] ∷ [] ∷ stated) long later (one (token t.name.at) (is_long t.name) (fault.TooLarge t.name.at) tt (inside-name t.name.at))
    (after_token [] ([] ∷ stated) later
    (after_token [] stated later (declared-then [] t.parameters (stated_from_shared t) (faults_from_shared l ns t) (from_shared l ns t)))))

-- the errors of a tree rise within its tokens
pub tree-in_order : (l : Limits) (t : Tree) → InOrder (tree_stated t) (meaning_faults l t)
tree-in_order l t =
    let ns : Names = names_of t in
    along (tree_stated t) (tree_stated t) (faults_from_name l ns t) (meaning_faults l t) refl
    (five_parts (where_ (is_long t.name) (fault.TooLarge t.name.at)) (declarations_faults [] t.parameters) (declarations_faults ns.parameters t.shared)
    (where_ (not (any_initial t.locations)) (fault.NoInitial t.locations_at)) (declarations_faults (guard_names ns) (map location_spelled t.locations))
    (faults_from_processes l ns t))
    (from_name l ns t)
