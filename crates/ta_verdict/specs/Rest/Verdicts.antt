-- Verdicts on patterns whose runs are to come to rest, and when they hold.
use Rattle.std.specs.Prelude.{ℕ, ◌≡◌, Bool, true, false, List, [], length, slice_get, Some}
use Rattle.ta_base.specs.declared.limits.TheConstants.{MOST_UNKNOWNS}
use Rattle.ta_words.specs.declared.element.Element.{Element}
use Rattle.std.specs.List.{AllByRecursion}
use Rattle.ta_automaton.specs.declared.file.File.{File}
use Rattle.ta_automaton.specs.declared.pattern.Pattern.{Pattern}
use Rattle.ta_cert.specs.declared.line.Node.{Node}
use Rattle.ta_encode.specs.Search.{Search}
use Rattle.ta_rest.specs.Faults.{EndingsOf}
use Rattle.ta_rest.specs.Rest.{RestSafe}
use Rattle.ta_rest.specs.RestSearch.{rest_search}
use Rattle.ta_rest.specs.declared.rest_file.RestFile.{RestFile}
use Rattle.ta_witness.specs.Runs.{RestWitnessOf}
use Rattle.ta_report.specs.Picked.{first_picked, picked}
use Rattle.ta_report.specs.declared.pick.Pick.{Pick}
use Rattle.ta_report.specs.declared.verdict.Verdict.{Verdict}
use Rattle.ta_report.specs.declared.verdict.Verdict.TheVariants.{Safe, Unsafe, Spent, Overflow}
use Rattle.ta_report.specs.Report.{VerdictFits}
use Rattle.ta_verdict.specs.Verdicts.{EachHolds, Question, VerdictAnswers}
use Rattle.ta_walk.specs.Ends.{IsProof, SolutionAt, TreeKept, most_unknowns}
use Rattle.ta_check.specs.Subjects.{claimed_with}
use Rattle.ta_rest.specs.declared.claim.Claim.TheVariants as claim
use Rattle.ta_encode.specs.declared.encoded.Solution.{Solution}
use Rattle.ta_moment_tree.specs.Makers.{moments_of}
use Rattle.ta_walk.specs.Found.{Found, FoundAt, RunLeaves}
use Rattle.ta_moments.specs.Refutes.{of_rest}
use Rattle.ta_moments.specs.declared.fact.Fact.{Fact}
use Rattle.ta_verdict.specs.Rest.Budgets.{RestBudget}
use Rattle.ta_verdict.specs.Rest.QuietRuns.{QuietRunOf}
use Rattle.ta_walk.specs.Splits.{HasAtMost}
use Rattle.ta_witness.specs.Witness.{WitnessOutOfRange}

-- whether no run in which the file's own pattern occurs comes to rest where its last event happens: asked with the schemas of rest of its
-- ending; a tree is a proof that the checker accepts
abbrev pub rest_question : File → File → ℕ → Pattern → Pattern → Question Element Solution
rest_question file ending added own p = record {
  search = rest_search ending.automaton p;
  at = SolutionAt (rest_search ending.automaton p);
  claim = RestSafe file.automaton own;
  proved = λ budget tree. IsProof MOST_UNKNOWNS (rest_search ending.automaton p) tree;
  shown = RestWitnessOf file ending added;
  leaves = WitnessOutOfRange ending;
  few = HasAtMost ending.automaton p [];
}

-- the same with moments on demand instead of schemas, and with silent places: whether no run comes to quiet rest so; without any, to rest.
-- Nothing is said of how many nodes are enough
abbrev pub quiet_question : File → File → ℕ → ℕ → List ℕ → Pattern → Pattern → Question Fact Found
quiet_question file ending added number silent own p = record {
  search = moments_of ending.automaton p (of_rest silent);
  at = λ k found. FoundAt (moments_of ending.automaton p (of_rest silent)) found;
  claim = claimed_with claim.RestSafe silent file.automaton own;
  proved = λ budget tree. IsProof (most_unknowns ending.automaton) (moments_of ending.automaton p (of_rest silent)) tree;
  shown = QuietRunOf file ending added number silent;
  leaves = RunLeaves ending number (of_rest silent);
  few = λ budget. ⊥;
}

-- a verdict on a file's own pattern with this number holds, for a budget of nodes of the tree of its ending: by schemas, or by moments on
-- demand
abbrev pub rest_holds_by : Bool → File → File → ℕ → RestBudget → ℕ → Pattern → Pattern → Verdict → Type 0
rest_holds_by false file ending added budget number own p v = VerdictAnswers (rest_question file ending added own p) budget.nodes number v
rest_holds_by true file ending added budget number own p v = VerdictAnswers (quiet_question file ending added number budget.silent own p) budget.nodes number v

abbrev pub RestVerdictHolds : File → File → ℕ → RestBudget → ℕ → Pattern → Pattern → Verdict → Type 0
RestVerdictHolds file ending added budget number own p v = rest_holds_by budget.lazy file ending added budget number own p v

-- the verdict on the ending with this number holds for the file's own pattern with this number
abbrev pub EndingVerdictHolds : File → File → ℕ → RestBudget → ℕ → Pattern → Verdict → Type 0
EndingVerdictHolds file ending added budget number p v =
    (own : Pattern) → slice_get file.patterns number ≡ Some own → RestVerdictHolds file ending added budget number own p v

-- the same for each file whose patterns have these endings
abbrev pub OwnVerdict : RestFile → RestBudget → ℕ → Pattern → Verdict → Type 0
OwnVerdict rest budget number p v = (file : File) → EndingsOf file rest.ending.file rest.added
    → EndingVerdictHolds file rest.ending.file rest.added budget number p v

-- `Keeps` holds of the nodes of a tree that refutes a pattern's ending
abbrev pub KeepsSafe : {E : Type 0} → Search E → ℕ → (List Node → Type 0) → Verdict → Type 0
KeepsSafe s budget Keeps (Safe nodes leaves) = TreeKept s budget Keeps nodes leaves
KeepsSafe s budget Keeps (Unsafe nodes run) = Unit {0}
KeepsSafe s budget Keeps (Spent nodes) = Unit {0}
KeepsSafe s budget Keeps (Overflow node kind) = Unit {0}

-- a verdict other than Safe on a pattern
abbrev pub IsNotSafe : Verdict → Type 0
IsNotSafe (Safe nodes leaves) = ⊥
IsNotSafe (Unsafe nodes run) = Unit {0}
IsNotSafe (Spent nodes) = Unit {0}
IsNotSafe (Overflow node kind) = Unit {0}

-- a verdict on each picked pattern of a file, in order, one for each: it holds, its numbers are below 2^64, and its run fits the file
pub record AreRestVerdicts (file ending : File) (added : ℕ) (pick : Pick) (budget : RestBudget) (verdicts : List Verdict) : Type 0 where
  pub each : length verdicts ≡ length (picked pick file.patterns)
  pub hold : EachHolds (EndingVerdictHolds file ending added budget) (first_picked pick) (picked pick ending.patterns) verdicts
  pub fit : AllByRecursion (VerdictFits file) verdicts

-- a verdict on each picked pattern of each file that has these endings
abbrev pub OwnVerdicts : RestFile → Pick → RestBudget → List Verdict → Type 0
OwnVerdicts rest pick budget verdicts =
    (file : File) → EndingsOf file rest.ending.file rest.added → AreRestVerdicts file rest.ending.file rest.added pick budget verdicts
