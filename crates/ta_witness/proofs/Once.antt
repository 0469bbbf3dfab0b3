-- a solution of a system of rest has one run less the mark of an added event
use Rattle.ta_witness.proofs.Common.{run_same}
use Rattle.ta_witness.proofs.RestCommon.{◌≡◌, ℕ, Bool, true, false, cond, [], ◌∷◌, ap, sym, ◌∙◌, false≢true, true≢false, append_cancel_right, has_bit, Run}
use Rattle.ta_witness.proofs.RestCommon.{Mark}
use Rattle.ta_witness.proofs.RestCommon.{RestWitnessesAreDetermined, ending_run, marked_at_end}
use Rattle.ta_witness.proofs.WitnessOnce.{one_witness}
use Rattle.ta_witness.proofs.OwnRuns.{ending_steps}
use Rattle.ta_witness.proofs.Resting.{solutions_solve}

-- the lines of runs whose endings' runs are the same
same_lines : (r s : Run) (b c : Bool) → b ≡ c → cond b (marked_at_end r) r ≡ cond c (marked_at_end s) s → r.lines ≡ s.lines
same_lines r s true true same e = append_cancel_right r.lines s.lines (Mark 0 ∷ []) (ap (λ (x : Run). x.lines) e)
same_lines r s false false same e = ap (λ (x : Run). x.lines) e
same_lines r s true false same e = absurd (true≢false same)
same_lines r s false true same e = absurd (false≢true same)

-- runs whose endings' runs are the same are the same
pub marks_once : (added : ℕ) (r s : Run) → ending_run added r ≡ ending_run added s → r ≡ s
marks_once added r s e =
    let x = ending_steps added r in
    let y = ending_steps added s in
    let pattern : r.pattern ≡ s.pattern = sym x.pattern ∙ ap (λ (z : Run). z.pattern) e ∙ y.pattern in
    run_same r s pattern
    (sym x.parameters ∙ ap (λ (z : Run). z.parameters) e ∙ y.parameters)
    (sym x.counts ∙ ap (λ (z : Run). z.counts) e ∙ y.counts)
    (same_lines r s (has_bit added r.pattern) (has_bit added s.pattern) (ap (has_bit added) pattern) e)

pub one_rest_witness : RestWitnessesAreDetermined
one_rest_witness ending added solution r s is first second =
    marks_once added r s (one_witness ending solution (ending_run added r) (ending_run added s) (solutions_solve ending solution is) first second)
