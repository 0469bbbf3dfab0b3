-- what is known of verdicts by moments on runs that come to quiet rest, as they are made
use Rattle.ta_verdict.proofs.Common.{LoopsPure, claimed_with, LostAt, Fits, ReportKind, loops_pure, VerdictAnswers, place_of, PlaceKind}
use Rattle.ta_verdict.proofs.rest.Common.{◌≡◌, ℕ, ◌≤◌, List, [], ◌∷◌, Some, slice_get, sym, subst, Automaton, File, Pattern, Node, Run, RestFile}
use Rattle.ta_verdict.proofs.rest.Common.{Safe, Unsafe, Spent, Overflow, IsSpent, TreeKept, OwnVerdict, moments_of}
use Rattle.ta_verdict.proofs.rest.Common.{of_rest, EndsAsAdded, ending_run, moments_within, quiet_question, run_leaves}
use Rattle.ta_rest.specs.declared.claim.Claim.TheVariants.{RestSafe}
use Rattle.ta_walk.proofs.NodesMade.{refuted_rest_hold}
use Rattle.ta_walk.specs.MomentEnds.{RunFound}
use Rattle.ta_rest.proofs.QuietResting.{rest_safe_is}
use Rattle.ta_rest.specs.Quiet.{QuietRestSafe}
use Rattle.ta_verdict.proofs.rest.QuietRuns.{quiet_run}
use Rattle.ta_report.specs.declared.verdict.ReportKind.TheVariants as kind

-- with no silent places quiet rest is rest
claimed_quietly : (silent : List ℕ) (a : Automaton) (p : Pattern) → QuietRestSafe a silent p → claimed_with RestSafe silent a p
claimed_quietly [] a p safe = (rest_safe_is a p).1 safe
claimed_quietly (place ∷ silent) a p safe = safe

-- trees that refute the moments of a pattern's ending
pub quiet_safe : (rest : RestFile) (budget number : ℕ) (silent : List ℕ) (p : Pattern) (Keeps : List Node → Type 0) (nodes leaves : ℕ)
    → slice_get rest.ending.file.patterns number ≡ Some p → budget ≤ 1000000000
    → TreeKept (moments_of rest.ending.file.automaton p (of_rest silent)) budget Keeps nodes leaves
    → OwnVerdict rest (moments_within budget silent) number p (Safe nodes leaves)
quiet_safe rest budget number silent p Keeps nodes leaves named within kept file ends own at =
    let ending = rest.ending.file in
    let loops = subst LoopsPure ends.automaton (loops_pure ending.automaton rest.ending.in_scope) in
    let holds = refuted_rest_hold file ending rest.added ends loops number own p at named silent budget within kept.nodes nodes kept.is in
    record {
      safe = claimed_quietly silent file.automaton own holds.1;
      tree = kept.nodes;
      is = kept.is;
      counted = kept.counted;
      proof = holds.0;
    }

-- the run of the first whole node
pub quiet_unsafe : (rest : RestFile) (budget number : ℕ) (silent : List ℕ) (p : Pattern) (count : ℕ) (marked run : Run)
    → RunFound (moments_of rest.ending.file.automaton p (of_rest silent)) rest.ending.file number (of_rest silent) budget count marked
    → Fits rest.ending.file marked → (EndsAsAdded rest.added marked → marked ≡ ending_run rest.added run)
    → OwnVerdict rest (moments_within budget silent) number p (Unsafe count run)
quiet_unsafe rest budget number silent p count marked run there fits own_is file ends own at = record {
  solution = there.found;
  node = there.node;
  is = quiet_run rest file ends number silent there.found marked run there.shown fits own_is;
}

-- a budget that is spent
pub quiet_spent : (rest : RestFile) (budget number : ℕ) (silent : List ℕ) (p : Pattern) (nodes : ℕ)
    → IsSpent (moments_of rest.ending.file.automaton p (of_rest silent)) budget nodes → OwnVerdict rest (moments_within budget silent) number p (Spent nodes)
quiet_spent rest budget number silent p nodes spent file ends own at = record { is = spent; split = λ few. absurd few }

-- where a number leaves the range
lost_at : (file ending : File) (added number : ℕ) (silent : List ℕ) (own p : Pattern) (budget node : ℕ) (r : ReportKind)
    → LostAt (moments_of ending.automaton p (of_rest silent)) ending number (of_rest silent) budget node (place_of r)
    → VerdictAnswers (quiet_question file ending added number silent own p) budget number (Overflow node r)
lost_at file ending added number silent own p budget node (kind.Pivot pivot) lost = lost
lost_at file ending added number silent own p budget node kind.Leaf lost = lost
lost_at file ending added number silent own p budget node kind.Run lost =
    run_leaves (quiet_question file ending added number silent own p) number budget node lost.found lost.is lost.leaves

pub quiet_overflow : (rest : RestFile) (budget number : ℕ) (silent : List ℕ) (p : Pattern) (node : ℕ) (k : PlaceKind) (r : ReportKind) → place_of r ≡ k
    → LostAt (moments_of rest.ending.file.automaton p (of_rest silent)) rest.ending.file number (of_rest silent) budget node k
    → OwnVerdict rest (moments_within budget silent) number p (Overflow node r)
quiet_overflow rest budget number silent p node k r same lost file ends own at =
    let ending = rest.ending.file in
    lost_at file ending rest.added number silent own p budget node r
    (subst (LostAt (moments_of ending.automaton p (of_rest silent)) ending number (of_rest silent) budget node) (sym same) lost)
