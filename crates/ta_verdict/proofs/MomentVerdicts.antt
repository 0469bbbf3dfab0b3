-- what the end of a visit of moments makes of the verdict
use Rattle.ta_verdict.proofs.Common.{◌≡◌, ℕ, ◌≤◌, List, Some, slice_get, File, Pattern, LoopsPure, Node, PlaceKind, IsSpent, ReportKind, Overflow, SafeHolds}
use Rattle.ta_verdict.proofs.Common.{SpentHolds, VerdictAnswers, moment_question, place_of, of_events, moments_of, LostAt}
use Rattle.ta_walk.proofs.NodesMade.{refuted_hold}
use Rattle.ta_walk.specs.Ends.{TreeKept}
use Rattle.ta_verdict.proofs.VerdictsMade.{overflow_holds, run_leaves}
use Rattle.ta_report.specs.declared.verdict.ReportKind.TheVariants as kind
use Rattle.ta_walk.specs.declared.end.PlaceKind.TheVariants as place

-- a refuted pattern is safe
pub moments_safe :
    (file : File) (number : ℕ) (p : Pattern) → slice_get file.patterns number ≡ Some p → LoopsPure file.automaton → (budget : ℕ) → budget ≤ 1000000000
    → (Keeps : List Node → Type 0) (nodes leaves : ℕ) → TreeKept (moments_of file.automaton p of_events) budget Keeps nodes leaves
    → SafeHolds (moment_question file number p) budget nodes leaves
moments_safe file number p at loops budget within Keeps nodes leaves kept =
    let holds = refuted_hold file number p at loops budget within kept.nodes nodes kept.is in
    record { safe = holds.1; tree = kept.nodes; is = kept.is; counted = kept.counted; proof = λ _. holds.0 }

-- a budget that is spent
pub moments_spent :
    (file : File) (number : ℕ) (p : Pattern) (budget nodes : ℕ) → IsSpent (moments_of file.automaton p of_events) budget nodes
    → SpentHolds (moment_question file number p) budget nodes
moments_spent file number p budget nodes spent = record { is = spent; split = λ none. absurd none }

-- a number that leaves the range
pub moments_overflow :
    (file : File) (number : ℕ) (p : Pattern) (budget node : ℕ) (k : PlaceKind) (r : ReportKind) → place_of r ≡ k
    → LostAt (moments_of file.automaton p of_events) file number of_events budget node k
    → VerdictAnswers (moment_question file number p) budget number (Overflow node r)
moments_overflow file number p budget node (place.Pivot pivot) r same lost =
    overflow_holds (moment_question file number p) number budget node (place.Pivot pivot) r same lost
moments_overflow file number p budget node place.Leaf r same lost = overflow_holds (moment_question file number p) number budget node place.Leaf r same lost
moments_overflow file number p budget node place.Run (kind.Pivot pivot) same lost = absurd (cc)
moments_overflow file number p budget node place.Run kind.Leaf same lost = absurd (cc)
moments_overflow file number p budget node place.Run kind.Run same lost =
    run_leaves (moment_question file number p) number budget node lost.found lost.is lost.leaves
