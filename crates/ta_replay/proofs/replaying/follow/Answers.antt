use Rattle.ta_replay.proofs.Common.{◌≡◌, ℕ, List, Some, pos, ap, arith, get_or, length, slice_get, subst, slice_get-get_or, err_is, RunLine, Step, Following}
use Rattle.ta_replay.proofs.Along.{following_next, following_stops}
use Rattle.ta_replay.proofs.replaying.follow.Goals as goal

pub returns : goal.returns
returns c =
    let a = c.args.automaton.now in
    let run = c.args.run.now in
    let count = ap (λ (lines : List RunLine). length lines) c.as_slice-line-items.ensures in
    let end : c.loop-number.number ≡ length run.lines = (let e = c.loop-number-test.false in omega arith) in
    record {
      follows = (c.loop-number.config, subst (λ n. Following a c.args.pattern.now run n c.loop-number.config c.loop-number.marks) end c.loop-number.invariant);
      refuses = tt;
    }

pub returns-in_err-marks-clause-refuses : goal.returns-in_err-marks-clause-refuses
returns-in_err-marks-clause-refuses c =
    let a = c.args.automaton.now in
    let run = c.args.run.now in
    let i = c.loop-number.number in
    let line = get_or c.as_slice-line-items.result.now i (Step 0 (pos 0)) in
    let at = subst (λ (lines : List RunLine). slice_get lines i ≡ Some line) c.as_slice-line-items.ensures
    (slice_get-get_or c.as_slice-line-items.result.now i (Step 0 (pos 0)) c.loop-number-test.true) in
    let parameters = ap (λ (xs : List (List ℕ)). length xs) c.as_slice.ensures in
    let initial = ap (λ (xs : List ℕ). length xs) c.as_slice-2.ensures in
    rw (err_is c.from_residual.result _ c.from_residual.ensures.1)
    (following_stops a c.args.pattern.now run i c.loop-number.config c.loop-number.marks line _ c.in_err-marks.field-0.0 at c.loop-number.invariant
    (omega arith) c.in_err-marks.ensures.refuses)

pub loop-number-preserved : goal.loop-number-preserved
loop-number-preserved c =
    let a = c.args.automaton.now in
    let run = c.args.run.now in
    let i = c.loop-number.number in
    let line = get_or c.as_slice-line-items.result.now i (Step 0 (pos 0)) in
    let at = subst (λ (lines : List RunLine). slice_get lines i ≡ Some line) c.as_slice-line-items.ensures
    (slice_get-get_or c.as_slice-line-items.result.now i (Step 0 (pos 0)) c.loop-number-test.true) in
    following_next a c.args.pattern.now run i c.loop-number.config c.follow_line.new.config c.loop-number.marks c.in_ok-marks.marks line c.requires.fits at
    c.loop-number.invariant c.in_ok-marks.ensures.is_of c.in_ok-marks.ensures.takes c.in_ok-marks.ensures.marks
