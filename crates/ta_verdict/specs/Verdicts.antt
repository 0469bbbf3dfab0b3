-- Verdicts on the patterns and on the parameters of a file, and when they hold.
use Rattle.std.specs.Prelude.{ℕ, ◌+◌, ◌≤◌, ◌≡◌, Bool, true, false, List, [], ◌∷◌, slice_get, Some, ℤ, pos, map}
use Rattle.ta_words.specs.declared.element.Element.{Element}
use Rattle.std.specs.List.{AllByRecursion}
use Rattle.ta_base.specs.declared.limits.TheConstants.{MOST_NODES, MOST_UNKNOWNS}
use Rattle.ta_automaton.specs.declared.automaton.Automaton.{Automaton}
use Rattle.ta_automaton.specs.declared.file.File.{File}
use Rattle.ta_automaton.specs.declared.pattern.Pattern.{Pattern}
use Rattle.ta_automaton.specs.Runs as runs
use Rattle.ta_cert.specs.Certificates.{pair_of}
use Rattle.ta_cert.specs.declared.line.Node.{Node}
use Rattle.ta_cert.specs.declared.line.Order.{Order}
use Rattle.ta_encode.specs.Sample.{HasStart}
use Rattle.ta_encode.specs.declared.encoded.Solution.{Solution}
use Rattle.ta_encode.specs.Search.{Pending, Search}
use Rattle.ta_replay.specs.declared.run.Run.{Run}
use Rattle.ta_replay.specs.Replays.{ReplayStays}
use Rattle.ta_replay.specs.Shows.{Shows}
use Rattle.ta_walk.specs.Samples.{IsSampleEnd}
use Rattle.ta_walk.specs.declared.end.SampleEnd.TheVariants as samples
use Rattle.ta_walk.specs.declared.end.PlaceKind.{PlaceKind}
use Rattle.ta_walk.specs.declared.end.PlaceKind.TheVariants as place
use Rattle.ta_walk.specs.Visit.{IsOutOfRangeAt}
use Rattle.ta_walk.specs.Ends.{IsProof, IsSpent, NodeOf, SolutionAt, TreeIs, leaf_count, most_unknowns}
use Rattle.ta_walk.specs.FoundOrders.{FoundOrders}
use Rattle.ta_walk.specs.Splits.{HasAtMost, WasSplit}
use Rattle.ta_report.specs.Picked.{first_picked, picked}
use Rattle.ta_report.specs.declared.pick.Pick.{Pick}
use Rattle.ta_report.specs.declared.pick.Pick.TheVariants.{All}
use Rattle.ta_report.specs.declared.verdict.ReportKind.{ReportKind}
use Rattle.ta_report.specs.declared.verdict.ReportKind.TheVariants as kind
use Rattle.ta_report.specs.declared.verdict.Verdict.{Verdict}
use Rattle.ta_report.specs.declared.verdict.Verdict.TheVariants.{Safe, Unsafe, Spent, Overflow}
use Rattle.ta_report.specs.declared.verdict.ReportSample.{ReportSample}
use Rattle.ta_report.specs.declared.verdict.ReportSample.TheVariants as sample
use Rattle.ta_report.specs.Report.{SampleFits, VerdictFits}
use Rattle.ta_encode.specs.PatternSearch.{pattern_search}
use Rattle.ta_witness.specs.Witness.{IsShortRun, WitnessOutOfRange, WitnessOf}
use Rattle.ta_moments.specs.declared.fact.Fact.{Fact}
use Rattle.ta_moments.specs.Refutes.{of_events}
use Rattle.ta_moment_tree.specs.Makers.{moments_of}
use Rattle.ta_walk.specs.Found.{Found, FoundAt, RunLeaves, ShownRun}
use Rattle.ta_verdict.specs.declared.budget.Budget.{Budget}

-- the place of a walk that a report names
abbrev pub place_of : ReportKind → PlaceKind
place_of (kind.Pivot pivot) = place.Pivot pivot
place_of kind.Leaf = place.Leaf
place_of kind.Run = place.Run

-- a fact about the pairs of guards by which schemas are ordered: those of the orders that are found
pub record UnderOrders (file : File) (fact : List (ℕ × ℕ) → Type 0) : Type 0 where
  pub orders : List Order
  pub found : FoundOrders file.automaton orders
  pub holds : fact (map pair_of orders)

-- what is asked about a pattern: which nodes are searched, by facts of some type; when a solution is that of a whole node, for the pattern
-- with this number; what holds if all are refuted; what a tree is then for a budget of nodes; the run of a solution; when a number of that
-- run's replay leaves the range; and how many nodes are enough unless one is split
pub record Question (E S : Type 0) : Type 1 where
  pub search : Search E
  pub at : ℕ → S → Pending E → Type 0
  pub claim : Type 0
  pub proved : ℕ → List Node → Type 0
  pub shown : S → Run → Type 0
  pub leaves : S → Type 0
  pub few : ℕ → Type 0

-- what is asked holds; the tree has this many nodes, within the budget, and this many of these are leaves; and what the question says of
-- such a tree holds
pub record SafeHolds {E S : Type 0} (q : Question E S) (budget nodes leaves : ℕ) : Type 0 where
  pub safe : q.claim
  pub tree : List Node
  pub is : TreeIs q.search budget tree nodes
  pub counted : leaves ≡ leaf_count tree
  pub proof : q.proved budget tree

-- the run is that of the solution of the first whole node, which is the node with this number, within the budget; the pattern of the search
-- has this number in its file
pub record UnsafeHolds {E S : Type 0} (q : Question E S) (number budget nodes : ℕ) (run : Run) : Type 0 where
  pub solution : S
  pub node : NodeOf q.search budget nodes (q.at number solution)
  pub is : q.shown solution run

-- as many nodes as the budget allows are visited, and one is left; if this many are enough unless one is split, one of these was split
pub record SpentHolds {E S : Type 0} (q : Question E S) (budget nodes : ℕ) : Type 0 where
  pub is : IsSpent q.search budget nodes
  pub split : q.few budget → WasSplit q.search budget

-- the node is a whole one, and a number of the replay of its run leaves the range
pub record RunOutOfRange {E S : Type 0} (q : Question E S) (number : ℕ) (w : Pending E) : Type 0 where
  pub solution : S
  pub whole : q.at number solution w
  pub run : q.leaves solution

-- where a number of a node leaves the range: in a pivot, in the check of its leaf, or in the replay of its run
abbrev pub IsOutOfRangeIn : {E S : Type 0} → Question E S → ℕ → ReportKind → Pending E → Type 0
IsOutOfRangeIn q number (kind.Pivot pivot) w = IsOutOfRangeAt q.search w (place.Pivot pivot)
IsOutOfRangeIn q number kind.Leaf w = IsOutOfRangeAt q.search w place.Leaf
IsOutOfRangeIn q number kind.Run w = RunOutOfRange q number w

-- a verdict on the pattern with this number answers a question, for a budget of nodes. Each node before the one that is named was a leaf,
-- asked or was split, and its numbers stayed in range
abbrev pub VerdictAnswers : {E S : Type 0} → Question E S → ℕ → ℕ → Verdict → Type 0
VerdictAnswers q budget number (Safe nodes leaves) = SafeHolds q budget nodes leaves
VerdictAnswers q budget number (Unsafe nodes run) = UnsafeHolds q number budget nodes run
VerdictAnswers q budget number (Spent nodes) = SpentHolds q budget nodes
VerdictAnswers q budget number (Overflow node kind) = NodeOf q.search budget node (IsOutOfRangeIn q number kind)

-- a verdict for each of the patterns, numbered from this number, and a fact about each
abbrev pub EachHolds : (ℕ → Pattern → Verdict → Type 0) → ℕ → List Pattern → List Verdict → Type 0
EachHolds Fact number [] [] = Unit {0}
EachHolds Fact number [] (v ∷ vs) = ⊥
EachHolds Fact number (p ∷ ps) [] = ⊥
EachHolds Fact number (p ∷ ps) (v ∷ vs) = Fact number p v × EachHolds Fact (number + 1) ps vs

-- the run of a solution, which shows the pattern with its number in a replay that stays in range, and has at most (guards + events) *
-- (rules + 1) steps
pub record ShownWitness (file : File) (solution : Solution) (run : Run) : Type 0 where
  pub witness : WitnessOf file solution run
  pub shows : Shows file run
  pub stays : ReplayStays file run
  pub short : IsShortRun file run

-- whether a pattern of a file is safe, with schemas ordered by pairs of guards; for a budget within the checker's limit a tree is a proof
-- that the checker accepts
abbrev pub safety_question : File → List (ℕ × ℕ) → Pattern → Question Element Solution
safety_question file pairs p = record {
  search = pattern_search file.automaton p pairs;
  at = SolutionAt (pattern_search file.automaton p pairs);
  claim = runs.Safe file.automaton p;
  proved = λ budget tree. budget ≤ MOST_NODES → IsProof MOST_UNKNOWNS (pattern_search file.automaton p pairs) tree;
  shown = ShownWitness file;
  leaves = WitnessOutOfRange file;
  few = HasAtMost file.automaton p pairs;
}

-- the same with moments on demand instead of schemas, for a file's pattern with this number. Nothing is said of how many nodes are enough
abbrev pub moment_question : File → ℕ → Pattern → Question Fact Found
moment_question file number p = record {
  search = moments_of file.automaton p of_events;
  at = λ number found. FoundAt (moments_of file.automaton p of_events) found;
  claim = runs.Safe file.automaton p;
  proved = λ budget tree. budget ≤ MOST_NODES → IsProof (most_unknowns file.automaton) (moments_of file.automaton p of_events) tree;
  shown = ShownRun file number of_events;
  leaves = RunLeaves file number of_events;
  few = λ budget. ⊥;
}

-- the values are a sample of the parameters: natural numbers that meet the resilience condition and have an initial configuration; and
-- the search for a sample ends with them within a budget of nodes
pub record SampleReal (a : Automaton) (budget : ℕ) (values : List ℤ) : Type 0 where
  pub parameters : List ℕ
  pub are : values ≡ map pos parameters
  pub start : HasStart a parameters
  pub found : IsSampleEnd a budget (samples.Sample values)

-- no parameters meet the resilience condition and have an initial configuration; and the search ends without any within the budget
pub record NoSample (a : Automaton) (budget : ℕ) : Type 0 where
  pub none : (parameters : List ℕ) → ¬ HasStart a parameters
  pub refuted : IsSampleEnd a budget samples.Empty

-- what is said of the parameters holds, for a budget of nodes
abbrev pub SampleHolds : File → ℕ → ReportSample → Type 0
SampleHolds file budget (sample.Sample values) = SampleReal file.automaton budget values
SampleHolds file budget sample.Empty = NoSample file.automaton budget
SampleHolds file budget (sample.Spent count) = IsSampleEnd file.automaton budget (samples.Spent count)
SampleHolds file budget (sample.Overflow node kind) = IsSampleEnd file.automaton budget (samples.Overflow node (place_of kind))

-- a sample of the parameters of a file: what is said of it holds, and it has a value for each of them
pub record IsSample (file : File) (budget : ℕ) (s : ReportSample) : Type 0 where
  pub holds : SampleHolds file budget s
  pub fits : SampleFits file s

-- a file has one sample for a budget
abbrev pub SamplesAreDetermined : Type 0
SamplesAreDetermined = (file : File) (budget : ℕ) (s t : ReportSample) → IsSample file budget s → IsSample file budget t → s ≡ t

-- a verdict on the pattern with this number holds, within this many nodes: by schemas, under the pairs of the orders that are found; or by
-- moments on demand
abbrev pub holds_by : Bool → File → ℕ → ℕ → Pattern → Verdict → Type 0
holds_by false file nodes number p v = UnderOrders file (λ pairs. VerdictAnswers (safety_question file pairs p) nodes number v)
holds_by true file nodes number p v = VerdictAnswers (moment_question file number p) nodes number v

abbrev pub VerdictHolds : File → Budget → ℕ → Pattern → Verdict → Type 0
VerdictHolds file budget number p v = holds_by budget.lazy file budget.nodes number p v

-- a verdict holds for each of the patterns, numbered from this number
abbrev pub VerdictsHold : File → Budget → ℕ → List Pattern → List Verdict → Type 0
VerdictsHold file budget number ps vs = EachHolds (VerdictHolds file budget) number ps vs

abbrev pub is_unsafe : Verdict → Bool
is_unsafe (Safe nodes leaves) = false
is_unsafe (Unsafe nodes run) = true
is_unsafe (Spent nodes) = false
is_unsafe (Overflow node kind) = false

abbrev pub is_unknown : Verdict → Bool
is_unknown (Safe nodes leaves) = false
is_unknown (Unsafe nodes run) = false
is_unknown (Spent nodes) = true
is_unknown (Overflow node kind) = true

-- a verdict on each picked pattern of a file, in order: each holds, its numbers are below 2^64, and its run fits the file
pub record AreVerdictsOn (file : File) (pick : Pick) (budget : Budget) (verdicts : List Verdict) : Type 0 where
  pub hold : VerdictsHold file budget (first_picked pick) (picked pick file.patterns) verdicts
  pub fit : AllByRecursion (VerdictFits file) verdicts

-- a verdict on each pattern
abbrev pub AreVerdicts : File → Budget → List Verdict → Type 0
AreVerdicts file budget verdicts = AreVerdictsOn file All budget verdicts

-- a file has one list of verdicts on its picked patterns for a budget
abbrev pub VerdictsAreDetermined : Type 0
VerdictsAreDetermined =
    (file : File) (pick : Pick) (budget : Budget) (vs ws : List Verdict) → AreVerdictsOn file pick budget vs → AreVerdictsOn file pick budget ws → vs ≡ ws

-- no verdict holds that leaves a picked pattern unknown
abbrev pub IsKnown : File → Pick → Budget → Type 0
IsKnown file pick budget =
    (place : ℕ) (p : Pattern) (v : Verdict) → slice_get (picked pick file.patterns) place ≡ Some p → is_unknown v ≡ true
    → ¬ VerdictHolds file budget (first_picked pick + place) p v
