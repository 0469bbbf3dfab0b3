-- The table of the errors of meaning: what each code says is wrong, and at which token, independent of other errors. `l` is the row of limits.
use Rattle.ta_base.specs.declared.limits.Limits.{Limits}
use Rattle.std.specs.Prelude.{◌<◌, ◌≤◌, ◌≡◌, ◌⊎◌, Bool, true, false, if◌then◌else◌, List, [], ◌∷◌, ◌++◌, length, map, flat_map}
use Rattle.std.specs.List.{AllByRecursion}
use Rattle.ta_base.specs.declared.limits.TheConstants.{LARGEST_NUMBER}
use Rattle.ta_syntax.specs.PlainSums.{plain_sum}
use Rattle.ta_syntax.specs.PlainTrees.{plain_name, plain_comparison}
use Rattle.ta_syntax.specs.declared.names.Spelled.{Spelled}
use Rattle.ta_syntax.specs.declared.names.Digits.{Digits}
use Rattle.ta_syntax.specs.declared.sums.TreeSum.{TreeSum}
use Rattle.ta_syntax.specs.declared.tree.TreeComparison.{TreeComparison}
use Rattle.ta_syntax.specs.declared.tree.TreeUpdate.{TreeUpdate}
use Rattle.ta_syntax.specs.declared.tree.TreeRule.{TreeRule}
use Rattle.ta_syntax.specs.declared.tree.TreeEvent.{TreeEvent}
use Rattle.ta_syntax.specs.declared.tree.TreePattern.{TreePattern}
use Rattle.ta_syntax.specs.declared.tree.Tree.{Tree}
use Rattle.ta_syntax.specs.declared.fault.FileFault.{FileFault}
use Rattle.ta_syntax.specs.declared.fault.FileFault.TheVariants as fault
use Rattle.ta_base.specs.Lists.{Distinct}
use Rattle.ta_base.specs.Masks.{In}
use Rattle.ta_meaning.specs.Sums.{number_of, has_name}
use Rattle.ta_meaning.specs.Linear.{Linear, linear_sum, comparison_rows, is_large_linear, any_large}
use Rattle.ta_meaning.specs.Names.{guard_names, all_names, names_of}
use Rattle.ta_meaning.specs.Guards.{falls, is_no_threshold}
use Rattle.ta_meaning.specs.Faults.{Scope, linear_term, in_parameters, in_guards, in_conditions, location_spelled, any_initial, meaning_faults}
use Rattle.ta_meaning.specs.Seen.{PlacedTerm, seen_sum, names_of_terms, numbers_of_terms, terms_of_terms}

-- ---- F3: repeated names

-- a name occurs in a list after the same name
abbrev pub Repeats : List Spelled → Spelled → Type 0
Repeats [] n = ⊥
Repeats (m ∷ ns) n = ((m.name ≡ n.name) × In n ns) ⊎ Repeats ns n

abbrev pub rule_name : TreeRule → Spelled
rule_name r = r.name

abbrev pub tree_pattern_name : TreePattern → Spelled
tree_pattern_name p = p.name

abbrev pub tree_event_name : TreeEvent → Spelled
tree_event_name e = e.name

abbrev pub updated_name : TreeUpdate → Spelled
updated_name u = u.name

-- the names of places, in the order of the text
abbrev pub place_names : Tree → List Spelled
place_names t = t.parameters ++ (t.shared ++ map location_spelled t.locations)

-- names that must be distinct: those of the places, of the rules, of the patterns and of the events of a pattern; those that a rule
-- updates, that a pattern keeps empty and that an event comes after
pub data AreApart (t : Tree) (ns : List Spelled) : Type 0 where
  apart_places : ns ≡ place_names t → AreApart t ns
  apart_rules : ns ≡ map rule_name t.rules → AreApart t ns
  apart_patterns : ns ≡ map tree_pattern_name t.patterns → AreApart t ns
  apart_events : (p : TreePattern) → In p t.patterns → ns ≡ map tree_event_name p.events → AreApart t ns
  apart_updates : (r : TreeRule) → In r t.rules → ns ≡ map updated_name r.updates → AreApart t ns
  apart_empty : (p : TreePattern) → In p t.patterns → ns ≡ p.empty → AreApart t ns
  apart_after : (p : TreePattern) (e : TreeEvent) → In p t.patterns → In e p.events → ns ≡ e.after → AreApart t ns

-- a name that is declared
pub data IsDeclared (t : Tree) (n : Spelled) : Type 0 where
  declared_file : n ≡ t.name → IsDeclared t n
  declared_place : In n (place_names t) → IsDeclared t n
  declared_rule : In n (map rule_name t.rules) → IsDeclared t n
  declared_pattern : In n (map tree_pattern_name t.patterns) → IsDeclared t n
  declared_event : (p : TreePattern) → In p t.patterns → In n (map tree_event_name p.events) → IsDeclared t n

-- ---- sums and comparisons

-- a comparison, with the names that may occur in it
pub data HasComparison (t : Tree) (s : Scope) (c : TreeComparison) : Type 0 where
  in_resilience : s ≡ in_parameters (names_of t) → In c t.resilience → HasComparison t s c
  in_guard : (r : TreeRule) → s ≡ in_guards (names_of t) → In r t.rules → In c r.guards → HasComparison t s c
  in_start : (p : TreePattern) → s ≡ in_conditions (names_of t) → In p t.patterns → In c p.start → HasComparison t s c
  in_event : (p : TreePattern) (e : TreeEvent) → s ≡ in_conditions (names_of t) → In p t.patterns → In e p.events → In c e.condition → HasComparison t s c

-- a sum, with the names that may occur in it
pub data HasSum (t : Tree) (s : Scope) (sum : TreeSum) : Type 0 where
  sum_of_processes : s ≡ in_parameters (names_of t) → sum ≡ t.processes → HasSum t s sum
  sum_at_left : (c : TreeComparison) → HasComparison t s c → sum ≡ c.left → HasSum t s sum
  sum_at_right : (c : TreeComparison) → HasComparison t s c → sum ≡ c.right → HasSum t s sum

-- ---- F4 and F5: names that are used

-- where locations may occur, where shared variables, and where events declared earlier
abbrev pub at_locations : Tree → Scope
at_locations t = record { places = all_names (names_of t); allowed = (names_of t).locations }

abbrev pub at_shared : Tree → Scope
at_shared t = record { places = all_names (names_of t); allowed = (names_of t).shared }

abbrev pub at_events : List TreeEvent → Scope
at_events earlier = record { places = map plain_name (map tree_event_name earlier); allowed = map plain_name (map tree_event_name earlier) }

-- a name that is used, with the names that may occur there
pub data IsUsed (t : Tree) (s : Scope) (n : Spelled) : Type 0 where
  used_from : (r : TreeRule) → In r t.rules → s ≡ at_locations t → n ≡ r.from → IsUsed t s n
  used_to : (r : TreeRule) → In r t.rules → s ≡ at_locations t → n ≡ r.to → IsUsed t s n
  used_update : (r : TreeRule) → In r t.rules → s ≡ at_shared t → In n (map updated_name r.updates) → IsUsed t s n
  used_empty : (p : TreePattern) → In p t.patterns → s ≡ at_locations t → In n p.empty → IsUsed t s n
  used_after : (p : TreePattern) (earlier later : List TreeEvent) (e : TreeEvent) → In p t.patterns → p.events ≡ earlier ++ e ∷ later → s ≡ at_events earlier
      → In n e.after → IsUsed t s n
  used_sum : (sum : TreeSum) → HasSum t s sum → In n (names_of_terms (seen_sum sum)) → IsUsed t s n

-- ---- F6: numbers

-- a number of the text
pub data IsNumberOf (t : Tree) (d : Digits) : Type 0 where
  number_of_update : (r : TreeRule) (u : TreeUpdate) → In r t.rules → In u r.updates → d ≡ u.amount → IsNumberOf t d
  number_in_sum : (s : Scope) (sum : TreeSum) → HasSum t s sum → In d (numbers_of_terms (seen_sum sum)) → IsNumberOf t d

-- ---- F7 and F9: guards
abbrev pub guards_of_rule : TreeRule → List TreeComparison
guards_of_rule r = r.guards

-- the guards of all rules, in the order of the text
abbrev pub tree_guards : Tree → List TreeComparison
tree_guards t = flat_map guards_of_rule t.rules

-- the rows of a guard
abbrev pub tree_guard_rows : Tree → TreeComparison → List Linear
tree_guard_rows t c = comparison_rows (guard_names (names_of t)) (plain_comparison c)

-- a threshold guard, which is this row: a fall guard or not
pub record IsThreshold (t : Tree) (fall : Bool) (row : Linear) (c : TreeComparison) : Type 0 where
  pub rows : tree_guard_rows t c ≡ row ∷ []
  pub threshold : is_no_threshold (length (names_of t).parameters) (row ∷ []) ≡ false
  pub kind : falls (length (names_of t).parameters) row ≡ fall

-- the row of some of these guards
abbrev pub IsRowAmong : Tree → List TreeComparison → Bool → Linear → Type 0
IsRowAmong t cs fall row = (c : TreeComparison) × In c cs × IsThreshold t fall row c

-- a threshold guard in excess: its row is none of the distinct rows of guards of its kind before it, which are as many as the limits allow
pub record IsOneMore (l : Limits) (t : Tree) (c : TreeComparison) : Type 0 where
  pub earlier : List TreeComparison
  pub later : List TreeComparison
  pub place : tree_guards t ≡ earlier ++ c ∷ later
  pub fall : Bool
  pub row : Linear
  pub is : IsThreshold t fall row c
  pub others : List Linear
  pub distinct : Distinct others
  pub before : AllByRecursion (IsRowAmong t earlier fall) others
  pub full : (if fall then l.falls else l.rises) ≤ length others
  pub new : AllByRecursion (λ other. other ≡ row → ⊥) others

-- ---- the table
pub data IsFaultOf (l : Limits) (t : Tree) (e : FileFault) : Type 0 where
  -- F3: a name that occurs twice where names must be distinct
  repeated : (ns : List Spelled) (n : Spelled) → AreApart t ns → Repeats ns n → e ≡ fault.Duplicate n.at → IsFaultOf l t e
  -- F4: a name that is used and not declared
  unknown : (s : Scope) (n : Spelled) → IsUsed t s n → has_name s.places n.name ≡ false → e ≡ fault.Unknown n.at → IsFaultOf l t e
  -- F5: a name of a kind that may not occur there
  wrong_kind : (s : Scope) (n : Spelled) → IsUsed t s n → has_name s.places n.name ≡ true → has_name s.allowed n.name ≡ false → e ≡ fault.WrongKind n.at
      → IsFaultOf l t e
  -- F6: a declared name longer than 64 bytes
  long : (n : Spelled) → IsDeclared t n → 64 < length n.name → e ≡ fault.TooLarge n.at → IsFaultOf l t e
  -- F6: a number above 1,000,000,000
  large_number : (d : Digits) → IsNumberOf t d → LARGEST_NUMBER < number_of d.text → e ≡ fault.TooLarge d.at → IsFaultOf l t e
  -- F6: a term whose form has such a number
  large_term : (s : Scope) (sum : TreeSum) (x : PlacedTerm) → HasSum t s sum → In x (terms_of_terms (seen_sum sum))
      → is_large_linear (linear_term s.allowed x.term) ≡ true → e ≡ fault.TooLarge x.at → IsFaultOf l t e
  -- F6: a comparison with a normal row that has one
  large_row : (s : Scope) (c : TreeComparison) → HasComparison t s c → any_large (comparison_rows s.allowed (plain_comparison c)) ≡ true
      → e ≡ fault.TooLarge c.at → IsFaultOf l t e
  -- F6: the sum of `processes` whose form has one
  large_sum : is_large_linear (linear_sum (names_of t).parameters (plain_sum t.processes)) ≡ true → e ≡ fault.TooLarge t.processes_at → IsFaultOf l t e
  -- F7: a guard in excess of as many distinct rise guards or distinct fall guards as the limits allow
  one_more : (c : TreeComparison) → IsOneMore l t c → e ≡ fault.TooMany c.at → IsFaultOf l t e
  -- F9: a guard that is not a threshold guard
  no_threshold : (c : TreeComparison) → In c (tree_guards t) → is_no_threshold (length (names_of t).parameters) (tree_guard_rows t c) ≡ true
      → e ≡ fault.NotThreshold c.at → IsFaultOf l t e
  -- F12: no location is initial
  no_initial : any_initial t.locations ≡ false → e ≡ fault.NoInitial t.locations_at → IsFaultOf l t e

-- each item of the list of errors of meaning is an error of the table
abbrev pub FaultsAreOfTheTable : Type 0
FaultsAreOfTheTable = (l : Limits) (t : Tree) → AllByRecursion (IsFaultOf l t) (meaning_faults l t)
