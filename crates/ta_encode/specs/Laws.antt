-- What schemas, their constraint systems and their refutations say of runs. Source of the reordering: Konnov, Lazić, Veith, Widder, POPL
-- 2017; start sets and joint falls are this project's.
use Rattle.std.specs.Prelude.{ℕ, ℤ, ◌<◌, ◌≤◌, ◌^◌, ◌≡◌, ◌≢◌, ◌==◌, ◌↔◌, false, if◌then◌else◌, true, List, [], ◌∷◌, ◌++◌, length, map, reverse, take, drop}
use Rattle.std.specs.Prelude.{slice_get, slice_index, Some}
use Rattle.ta_base.specs.Sums.{total}
use Rattle.std.specs.List.{AllByRecursion, range_with_len}
use Rattle.ta_linear.specs.Values.{RowHolds}
use Rattle.ta_linear.specs.declared.row.Row.{Row}
use Rattle.ta_automaton.specs.declared.rule.Rule.{Rule}
use Rattle.ta_automaton.specs.declared.automaton.Automaton.{Automaton}
use Rattle.ta_automaton.specs.declared.pattern.Pattern.{Pattern}
use Rattle.ta_automaton.specs.declared.file.File.{File}
use Rattle.ta_automaton.specs.Places.{rule_change}
use Rattle.ta_automaton.specs.Runs.{Config, InScope, LoopsPure, Occurs, Safe, value_at}
use Rattle.ta_cert.specs.Tree.{Tree}
use Rattle.ta_implied.specs.Implied.{Good}
use Rattle.ta_words.specs.declared.element.Element.{Element}
use Rattle.ta_words.specs.declared.element.Element.TheVariants.{Event, Rise, Fall}
use Rattle.ta_words.specs.Words.{LegalUnder, has_fallen, has_rise, is_complete, may_fire}
use Rattle.ta_encode.specs.Unknowns.{Meaning, Single, meanings, counts_after, place_coefficient, start_locations, start_meanings}
use Rattle.ta_encode.specs.System.{SolvesWord, sum_of_products}
use Rattle.ta_encode.specs.Refutes.{ProofOf}

-- a complete schema that is legal under pairs, and natural values that solve its system without bounds
pub record SolvedUnder (a : Automaton) (p : Pattern) (pairs : List (ℕ × ℕ)) (start : ℕ) (word : List Element) (values : List ℕ) : Type 0 where
  pub legal : LegalUnder a p pairs start (reverse word)
  pub complete : is_complete p (reverse word) ≡ true
  pub solves : SolvesWord a p start (reverse word) [] values

-- the same under no pairs
abbrev pub SolvedWord : Automaton → Pattern → ℕ → List Element → List ℕ → Type 0
SolvedWord a p start word values = SolvedUnder a p [] start word values

-- the parameters of a configuration, and its counters of the initial locations that are not kept empty
abbrev pub start_values : Automaton → Pattern → Config → List ℕ
start_values a p first = first.parameters ++ map (slice_index first.counters) (start_locations a p)

-- the values of a prefix's unknowns, which are the first unknowns of the schema
abbrev pub values_of_prefix : Automaton → Pattern → ℕ → List Element → List ℕ → List ℕ
values_of_prefix a p start prefix values = take (length (meanings a p start (reverse prefix))) values

-- a set of fall guards, a complete schema that is legal under pairs and one assignment of naturals that has the parameters and the start
-- counts of a configuration, and that solves the system of the schema and that of each of its prefixes
pub record IsReordered (a : Automaton) (p : Pattern) (pairs : List (ℕ × ℕ)) (first : Config) : Type 0 where
  pub start : ℕ
  pub is_start : start < 2 ^ length a.fall
  pub word : List Element
  pub values : List ℕ
  pub begins : start_values a p first ≡ take (length (start_meanings a p)) values
  pub solved : SolvedUnder a p pairs start word values
  pub prefix_solved : (k : ℕ) → SolvesWord a p start (reverse (take k word)) [] (values_of_prefix a p start (take k word) values)

-- reordering: under good pairs of rise guards, every run in which the pattern occurs, of any length and any number of processes, is
-- described by a schema that is legal under them and whose system it solves
abbrev pub RunsReorder : Type 0
RunsReorder =
    (file : File) (n : ℕ) (p : Pattern) → slice_get file.patterns n ≡ Some p
    → LoopsPure file.automaton
    → (pairs : List (ℕ × ℕ)) → Good file.automaton pairs
    → (first : Config) (rules : List ℕ) → Occurs file.automaton p first rules
    → IsReordered file.automaton p pairs first

-- the end of a schema that describes a run of these configurations, in which the events have these positions: its newest element is an
-- event; the values are those of the configuration at this event's position, and no other event is later; the rise guards that hold there
-- are those in the schema, and the fall guards that fail there are those that have fallen
pub record EndsAt (a : Automaton) (p : Pattern) (start : ℕ) (past : List Element) (values : List ℕ) (configs : List Config) (positions : List ℕ) : Type 0 where
  pub last : ℕ
  pub older : List Element
  pub newest : past ≡ Event last ∷ older
  pub place : ℕ
  pub position : slice_index positions last ≡ place
  pub greatest : (e : ℕ) → e < length p.events → slice_index positions e ≤ place
  pub config : Config
  pub there : slice_get configs place ≡ Some config
  pub count : length values ≡ length (meanings a p start past)
  pub places : (i : ℕ) → sum_of_products (map (λ m. place_coefficient a m i) (meanings a p start past)) values ≡ value_at config i
  pub risen : (i : ℕ) (row : Row) → slice_get a.rise i ≡ Some row → RowHolds (value_at config) row ↔ (has_rise past i ≡ true)
  pub fallen : (j : ℕ) (row : Row) → slice_get a.fall j ≡ Some row → RowHolds (value_at config) row ↔ (has_fallen start past j ≡ false)

-- a schema as in the reordering, and its end
pub record ReorderedTo (a : Automaton) (p : Pattern) (pairs : List (ℕ × ℕ)) (first : Config) (configs : List Config) (positions : List ℕ) : Type 0 where
  pub reordered : IsReordered a p pairs first
  pub ends : EndsAt a p reordered.start (reverse reordered.word) reordered.values configs positions

-- the schema of a run in which a pattern with events occurs ends with the event that happens last, at the configuration at which it happens
abbrev pub RunsReorderTo : Type 0
RunsReorderTo =
    (file : File) (n : ℕ) (p : Pattern) → slice_get file.patterns n ≡ Some p
    → LoopsPure file.automaton
    → (pairs : List (ℕ × ℕ)) → Good file.automaton pairs
    → 0 < length p.events
    → (first : Config) (rules : List ℕ) (o : Occurs file.automaton p first rules)
    → ReorderedTo file.automaton p pairs first (first ∷ o.later) o.positions

-- a proof of a pattern under good pairs shows that the pattern occurs in no run
abbrev pub ProofsShowSafety : Type 0
ProofsShowSafety =
    (file : File) (n : ℕ) (p : Pattern) → slice_get file.patterns n ≡ Some p
    → LoopsPure file.automaton
    → (pairs : List (ℕ × ℕ)) → Good file.automaton pairs
    → (trees : List Tree) → ProofOf file.automaton p pairs trees
    → Safe file.automaton p

-- if a pattern has a proof under pairs, no complete schema that is legal under them has a natural solution
abbrev pub ProofsLeaveNoSolution : Type 0
ProofsLeaveNoSolution =
    (a : Automaton) (p : Pattern) (pairs : List (ℕ × ℕ)) (trees : List Tree) → ProofOf a p pairs trees
    → (start : ℕ) → start < 2 ^ length a.fall
    → (word : List Element) (values : List ℕ) → SolvedUnder a p pairs start word values
    → ⊥

-- a location that a step leaves is the target neither of that step nor of a later one
abbrev pub GoesForward : Automaton → List ℕ → Type 0
GoesForward a rules =
    (i j q r : ℕ) (early late : Rule) → i ≤ j → slice_get rules i ≡ Some q → slice_get rules j ≡ Some r
    → slice_get a.rules q ≡ Some early → slice_get a.rules r ≡ Some late → early.from ≢ late.to

-- what the Counts of the element after a schema add at a place
abbrev pub counts_change : Automaton → Pattern → ℕ → List Element → List ℕ → ℕ → ℤ
counts_change a p start past values place =
    sum_of_products (map (λ m. place_coefficient a m place) (counts_after a p start past)) (drop (length (meanings a p start past)) values)

-- unit steps before the element after a schema: each may fire after the schema, they go forward, and together they add at each place what
-- the element's Counts add there
pub record FiresBefore (a : Automaton) (p : Pattern) (start : ℕ) (past : List Element) (values rules : List ℕ) : Type 0 where
  pub allowed : AllByRecursion (λ r. may_fire a p start past (slice_get a.rules r) ≡ true) rules
  pub forward : GoesForward a rules
  pub adds : (place : ℕ) → total (λ r. rule_change a (slice_get a.rules r) place) rules ≡ counts_change a p start past values place

-- the unknown that stands for something has the value 1
abbrev pub IsOne : List Meaning → List ℕ → Meaning → Type 0
IsOne ms values m = (i : ℕ) × (slice_get ms i ≡ Some m) × (slice_get values i ≡ Some 1)

-- unit steps of a Fall after a schema: those of its Counts, and then the rule whose Single is 1
pub record FiresFall (a : Automaton) (p : Pattern) (start : ℕ) (past : List Element) (mask : ℕ) (values rules : List ℕ) : Type 0 where
  pub front : List ℕ
  pub last : ℕ
  pub cut : rules ≡ front ++ last ∷ []
  pub fires : FiresBefore a p start past values front
  pub single : IsOne (meanings a p start (Fall mask ∷ past)) values (Single (length past) last)

-- unit steps for each element of a schema, those of the newest element first
abbrev pub WordFires : Automaton → Pattern → ℕ → List Element → List ℕ → List (List ℕ) → Type 0
WordFires a p start [] values [] = Unit {0}
WordFires a p start [] values (rules ∷ older) = ⊥
WordFires a p start (element ∷ past) values [] = ⊥
WordFires a p start (Event e ∷ past) values (rules ∷ older) = FiresBefore a p start past values rules × WordFires a p start past values older
WordFires a p start (Rise i ∷ past) values (rules ∷ older) = FiresBefore a p start past values rules × WordFires a p start past values older
WordFires a p start (Fall mask ∷ past) values (rules ∷ older) = FiresFall a p start past mask values rules × WordFires a p start past values older

-- all unit steps, in order
abbrev pub steps_of : List (List ℕ) → List ℕ
steps_of [] = []
steps_of (rules ∷ older) = steps_of older ++ rules

-- how many unit steps come before an event of a schema: those up to the end of its element
abbrev pub position_in : List Element → List (List ℕ) → ℕ → ℕ
position_in [] firings e = 0
position_in (element ∷ past) [] e = 0
position_in (Event f ∷ past) (rules ∷ older) e = if e == f then length (steps_of (rules ∷ older)) else position_in past older e
position_in (Rise i ∷ past) (rules ∷ older) e = position_in past older e
position_in (Fall mask ∷ past) (rules ∷ older) e = position_in past older e

-- the pattern occurs in the run of these unit steps, from a configuration that has the parameters and the start counts of an
-- assignment, and each event happens at the end of its element
pub record RunsThrough (a : Automaton) (p : Pattern) (past : List Element) (values : List ℕ) (firings : List (List ℕ)) : Type 0 where
  pub first : Config
  pub begins : start_values a p first ≡ take (length (start_meanings a p)) values
  pub occurs : Occurs a p first (steps_of firings)
  pub there : occurs.positions ≡ map (position_in past firings) (range_with_len 0 (length p.events))

-- a complete legal schema with a natural solution: any unit steps that go forward and are, for each element, those of its Counts and its
-- Single make a run in which the pattern occurs
abbrev pub StepsOfSolutionsRun : Type 0
StepsOfSolutionsRun =
    (file : File) (n : ℕ) (p : Pattern) → slice_get file.patterns n ≡ Some p
    → (start : ℕ) (word : List Element) (values : List ℕ) → SolvedWord file.automaton p start word values
    → (firings : List (List ℕ)) → WordFires file.automaton p start (reverse word) values firings
    → RunsThrough file.automaton p (reverse word) values firings

-- a run in which the pattern occurs, from a configuration that has the parameters and the start counts of an assignment
pub record HasRun (a : Automaton) (p : Pattern) (values : List ℕ) : Type 0 where
  pub first : Config
  pub rules : List ℕ
  pub begins : start_values a p first ≡ take (length (start_meanings a p)) values
  pub occurs : Occurs a p first rules

-- where no rule with an update is on a cycle, a complete legal schema with a natural solution gives a run in which the pattern occurs
abbrev pub SolutionsBecomeRuns : Type 0
SolutionsBecomeRuns =
    (file : File) (n : ℕ) (p : Pattern) → slice_get file.patterns n ≡ Some p
    → InScope file.automaton
    → (start : ℕ) (word : List Element) (values : List ℕ) → SolvedWord file.automaton p start word values
    → HasRun file.automaton p values
