-- a pattern of a file has one verdict on its runs that come to rest for one budget
use Rattle.ta_verdict.proofs.Common.{runs_once, ReplayStays, one_witness}
use Rattle.ta_verdict.proofs.rest.Common.{◌≡◌, ℕ, Bool, true, false, List, length, subst, arith, Some, slice_get, slice_get_within, some_at, File, Pattern}
use Rattle.ta_verdict.proofs.rest.Common.{Verdict, ending_run, endings_count, EndingVerdictHolds, RestBudget, moments_of, of_rest, quiet_question}
use Rattle.ta_verdict.proofs.rest.Common.{rest_holds_by, rest_question, RestVerdictsAreDetermined}
use Rattle.ta_witness.proofs.Once.{marks_once, one_rest_witness}
use Rattle.ta_witness.proofs.Resting.{solutions_solve}
use Rattle.ta_verdict.proofs.VerdictsOnce.{HasOneRun, HasOneSolution, answer_once, found_once, picked_same, words_have_one}
use Rattle.ta_verdict.proofs.rest.RestsSolved.{found_solved}

words_have_one_run : (file ending : File) (added number budget : ℕ) (own p : Pattern) → slice_get ending.patterns number ≡ Some p
    → HasOneRun (rest_question file ending added own p) number budget
words_have_one_run file ending added number budget own p at = record {
  one = λ count solution found r s a b. one_rest_witness ending added solution r s (found_solved ending number p at budget count solution found) a.witness
      b.witness;
  apart = λ count solution found r a out.
      let solves = solutions_solve ending solution (found_solved ending number p at budget count solution found) in
      out.leaves (subst (ReplayStays ending) (one_witness ending solution (ending_run added r) out.run solves a.witness out.is) a.of_ending.stays);
}

moments_have_one : (file ending : File) (added number budget : ℕ) (silent : List ℕ) (own p : Pattern)
    → HasOneSolution (quiet_question file ending added number silent own p) number budget
moments_have_one file ending added number budget silent own p = record {
  values = λ x. x.numbers;
  whole = λ w x h. h.1;
  one = found_once (moments_of ending.automaton p (of_rest silent)) budget;
}

moments_have_one_run : (file ending : File) (added number budget : ℕ) (silent : List ℕ) (own p : Pattern)
    → HasOneRun (quiet_question file ending added number silent own p) number budget
moments_have_one_run file ending added number budget silent own p = record {
  one = λ count found node r s a b. marks_once added r s (runs_once ending number (of_rest silent) found (ending_run added r) (ending_run added s) a.is b.is);
  apart = λ count found node r a out. out.leaves (ending_run added r) a.is a.of_ending.stays;
}

verdict_by : (lazy : Bool) (file ending : File) (added : ℕ) (budget : RestBudget) (number : ℕ) (own p : Pattern) (v w : Verdict)
    → slice_get ending.patterns number ≡ Some p → rest_holds_by lazy file ending added budget number own p v
    → rest_holds_by lazy file ending added budget number own p w → v ≡ w
verdict_by false file ending added budget number own p v w at h k =
    let q = rest_question file ending added own p in
    answer_once q number budget.nodes (words_have_one q number budget.nodes (λ x word there. there))
    (words_have_one_run file ending added number budget.nodes own p at) v w h k
verdict_by true file ending added budget number own p v w at h k =
    answer_once (quiet_question file ending added number budget.silent own p) number budget.nodes
    (moments_have_one file ending added number budget.nodes budget.silent own p)
    (moments_have_one_run file ending added number budget.nodes budget.silent own p) v w h k

verdict_once : (file ending : File) (added : ℕ) (budget : RestBudget) → length ending.patterns ≡ length file.patterns → (k : ℕ) (p : Pattern) (v w : Verdict)
    → slice_get ending.patterns k ≡ Some p → EndingVerdictHolds file ending added budget k p v → EndingVerdictHolds file ending added budget k p w → v ≡ w
verdict_once file ending added budget same k p v w at h g =
    let own = some_at file.patterns k (omega (arith, slice_get_within ending.patterns k p at)) in
    verdict_by budget.lazy file ending added budget k own.0 p v w at (h own.0 own.1) (g own.0 own.1)

pub verdicts_once : RestVerdictsAreDetermined
verdicts_once file ending added pick budget ends vs ws h k =
    picked_same (EndingVerdictHolds file ending added budget) pick ending.patterns vs ws
    (verdict_once file ending added budget (endings_count file.patterns ending.patterns ends.patterns)) h.hold k.hold
