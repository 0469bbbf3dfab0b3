-- What an automaton file means: place numbers instead of names, normal rows instead of comparisons.
use Rattle.ta_base.specs.declared.limits.Limits.{Limits}
use Rattle.ta_base.specs.Lists.{Pairwise}
use Rattle.std.specs.Prelude.{ℕ, ℤ, pos, ◌+◌, ◌≡◌, ◌≢◌, ◌↔◌, ◌⊎◌, List, [], ◌∷◌, ◌++◌, length, map, slice_get, Contains, Some, IsBitSet, if◌then◌else◌}
use Rattle.std.specs.List.{AllByRecursion}
use Rattle.ta_syntax.specs.Grammar.{PlainLocation, PlainUpdate, PlainRule, PlainEvent, PlainPattern, PlainTree}
use Rattle.ta_syntax.specs.TreeOf.{IsTreeOf}
use Rattle.ta_syntax.specs.PlainTrees.{plain_tree}
use Rattle.ta_syntax.specs.declared.tree.Tree.{Tree}
use Rattle.ta_automaton.specs.declared.rule.Rule.{Rule}
use Rattle.ta_automaton.specs.declared.pattern.Event.{Event}
use Rattle.ta_automaton.specs.declared.pattern.Pattern.{Pattern}
use Rattle.ta_automaton.specs.declared.automaton.Automaton.{Automaton}
use Rattle.ta_automaton.specs.declared.file.File.{File}
use Rattle.ta_meaning.specs.Sums.{number_of}
use Rattle.ta_meaning.specs.Names.{Names, guard_names, all_names, location_name, plain_names}
use Rattle.ta_meaning.specs.Linear.{RowOf, MeansForm, UsesNames, MeansCondition}
use Rattle.ta_meaning.specs.Guards.{Guards, no_guards, guards_after, rows_of, NamesGuards}

-- the guards of rules, in the order of the text
abbrev pub guards_of : Names → List PlainRule → Guards
guards_of ns rules = guards_after (length ns.parameters) (guard_names ns) no_guards rules

-- the updates in order, those by 0 left out
abbrev pub MeansUpdates : List (List ℕ) → List PlainUpdate → List (ℕ × ℤ) → Type 0
MeansUpdates shared [] updates = updates ≡ []
MeansUpdates shared (u ∷ us) updates =
    ((number_of u.amount ≡ 0) × Contains shared u.name × MeansUpdates shared us updates)
    ⊎ ((number_of u.amount ≢ 0) × ((x : ℕ) × (rest : List (ℕ × ℤ)) × (slice_get shared x ≡ Some u.name) × (updates ≡ (x, pos (number_of u.amount)) ∷ rest)
    × MeansUpdates shared us rest))

-- a rule's locations, the masks of its guards among those of the file, and its updates
pub record MeansRule (ns : Names) (guards : Guards) (r : PlainRule) (rule : Rule) : Type 0 where
  pub name : rule.name ≡ r.name
  pub from : slice_get ns.locations rule.from ≡ Some r.from
  pub to : slice_get ns.locations rule.to ≡ Some r.to
  pub known : AllByRecursion (UsesNames (guard_names ns)) r.guards
  pub rise : NamesGuards guards.rise (rows_of (guard_names ns) r.guards) rule.rise
  pub fall : NamesGuards guards.fall (rows_of (guard_names ns) r.guards) rule.fall
  pub updates : MeansUpdates ns.shared r.updates rule.updates

-- the numbers of the locations that are marked, the first having number k
abbrev pub initial_from : ℕ → List PlainLocation → List ℕ
initial_from k [] = []
initial_from k (l ∷ ls) = if l.initial then k ∷ initial_from (k + 1) ls else initial_from (k + 1) ls

-- an automaton's names, its number of processes, its resilience condition, its guards and its rules
pub record MeansAutomaton (t : PlainTree) (a : Automaton) : Type 0 where
  pub name : a.name ≡ t.name
  pub parameters : a.parameters ≡ t.parameters
  pub shared : a.shared ≡ t.shared
  pub locations : a.locations ≡ map location_name t.locations
  pub initial : a.initial ≡ initial_from 0 t.locations
  pub processes : MeansForm t.parameters t.processes a.processes
  pub resilience : MeansCondition t.parameters t.resilience a.resilience
  pub rise : Pairwise RowOf (guards_of (plain_names t) t.rules).rise a.rise
  pub fall : Pairwise RowOf (guards_of (plain_names t) t.rules).fall a.fall
  pub rules : Pairwise (MeansRule (plain_names t) (guards_of (plain_names t) t.rules)) t.rules a.rules

-- the bits of a mask are the numbers of the names that are listed, and each of these is a name
pub record NamesBits (names listed : List (List ℕ)) (mask : ℕ) : Type 0 where
  pub known : AllByRecursion (Contains names) listed
  pub bits : (i : ℕ) → IsBitSet mask i ↔ ((n : List ℕ) × (slice_get names i ≡ Some n) × Contains listed n)

-- an event after some others: the ones that it comes after, and its condition
pub record MeansEvent (ns : Names) (before : List (List ℕ)) (e : PlainEvent) (event : Event) : Type 0 where
  pub name : event.name ≡ e.name
  pub after : NamesBits before e.after event.after
  pub condition : MeansCondition (all_names ns) e.condition event.condition

-- events one after another; each may come after those before it
abbrev pub MeansEvents : Names → List (List ℕ) → List PlainEvent → List Event → Type 0
MeansEvents ns before [] [] = Unit {0}
MeansEvents ns before (e ∷ es) (event ∷ events) = MeansEvent ns before e event × MeansEvents ns (before ++ e.name ∷ []) es events
MeansEvents ns before [] (event ∷ events) = ⊥
MeansEvents ns before (e ∷ es) [] = ⊥

-- a pattern's start condition, the locations that it keeps empty, and its events
pub record MeansPattern (ns : Names) (p : PlainPattern) (pattern : Pattern) : Type 0 where
  pub name : pattern.name ≡ p.name
  pub start : MeansCondition (all_names ns) p.start pattern.start
  pub empty : NamesBits ns.locations p.empty pattern.empty
  pub events : MeansEvents ns [] p.events pattern.events

-- the file that a tree means
pub record MeansTree (t : PlainTree) (file : File) : Type 0 where
  pub automaton : MeansAutomaton t file.automaton
  pub patterns : Pairwise (MeansPattern (plain_names t)) t.patterns file.patterns

-- the file that a text means: its tokens are those of a tree of the grammar within the limits `l`, which means the file
pub record Means (l : Limits) (bytes : List ℕ) (file : File) : Type 0 where
  pub tree : Tree
  pub is_tree : IsTreeOf l bytes tree
  pub means : MeansTree (plain_tree tree) file
