use Rattle.ta_compress.proofs.Common.{◌≡◌, ◌<◌, ℕ, pos, List, length, arith, ap, subst, slice_get, get_or, Some, slice_get-get_or, err_is, Run, RunLine, Step}
use Rattle.ta_compress.proofs.Common.{EndsAtLastMark}
use Rattle.ta_compress.proofs.Shortening.{Going, may_follow, going_next, going_stops, gone, gone_stayed}
use Rattle.ta_compress.proofs.compressing.shorten.Goals as goal

-- the line that is followed
line_at : (lines : List RunLine) (run : Run) (i n : ℕ) → lines ≡ run.lines → i < n → EndsAtLastMark lines n
    → slice_get run.lines i ≡ Some (get_or lines i (Step 0 (pos 0)))
line_at lines run i n same below last =
    let within = last.within in
    subst (λ (ls : List RunLine). slice_get ls i ≡ Some (get_or lines i (Step 0 (pos 0)))) same (slice_get-get_or lines i (Step 0 (pos 0)) (omega arith))

last_of : (lines : List RunLine) (run : Run) (n : ℕ) → lines ≡ run.lines → EndsAtLastMark lines n → EndsAtLastMark run.lines n
last_of lines run n same last = subst (λ (ls : List RunLine). EndsAtLastMark ls n) same last

pub follow-requires-clause-may : goal.follow-requires-clause-may
follow-requires-clause-may c =
    let lines = c.as_slice-lines.result.now in
    let at = line_at lines c.args.run.now c.loop-number.number c.last_mark-number-end.result c.as_slice-lines.ensures c.loop-number-test.true
    c.last_mark-number-end.ensures in
    may_follow c.args.scoped.now.file c.args.run.now c.loop-number.number c.loop-number.draft _ c.requires.fits c.requires.admitted c.loop-number.invariant at

pub returns-in_err-follow-clause-fault : goal.returns-in_err-follow-clause-fault
returns-in_err-follow-clause-fault c =
    let lines = c.as_slice-lines.result.now in
    let run = c.args.run.now in
    let n = c.last_mark-number-end.result in
    let at = line_at lines run c.loop-number.number n c.as_slice-lines.ensures c.loop-number-test.true c.last_mark-number-end.ensures in
    let parameters = ap (λ (xs : List (List ℕ)). length xs) c.as_slice.ensures in
    let initial = ap (λ (xs : List ℕ). length xs) c.as_slice-2.ensures in
    rw (err_is c.from_residual-in_err-follow.result _ c.from_residual-in_err-follow.ensures.1)
    (going_stops c.args.scoped.now.file run c.loop-number.number n c.loop-number.draft _ _ c.in_err-follow.field-0.0 c.requires.fits c.requires.admitted
    c.loop-number.invariant (last_of lines run n c.as_slice-lines.ensures c.last_mark-number-end.ensures) c.loop-number-test.true at (omega arith)
    c.in_err-follow.ensures.stops)

pub loop-number-preserved : goal.loop-number-preserved
loop-number-preserved c =
    let lines = c.as_slice-lines.result.now in
    let at = line_at lines c.args.run.now c.loop-number.number c.last_mark-number-end.result c.as_slice-lines.ensures c.loop-number-test.true
    c.last_mark-number-end.ensures in
    going_next c.args.scoped.now.file c.args.run.now c.loop-number.number c.loop-number.draft c.follow.new.self _ c.requires.fits c.loop-number.invariant at
    c.in_ok-follow.ensures.goes c.in_ok-follow.ensures.keeps c.in_ok-follow.ensures.room

at_end : (c : goal.After-drop-draft-2) → Going c.args.scoped.now.file c.args.run.now c.last_mark-number-end.result c.loop-number.draft
at_end c =
    let past = c.loop-number-test.false in
    let end = c.loop-number.auto.number-end in
    let all : c.loop-number.number ≡ c.last_mark-number-end.result = omega arith in
    subst (λ k. Going c.args.scoped.now.file c.args.run.now k c.loop-number.draft) all c.loop-number.invariant

pub returns-clause-cut : goal.returns-clause-cut
returns-clause-cut c =
    gone c.args.scoped.now.file c.args.run.now c.last_mark-number-end.result c.loop-number.draft
    (last_of c.as_slice-lines.result.now c.args.run.now c.last_mark-number-end.result c.as_slice-lines.ensures c.last_mark-number-end.ensures) (at_end c)

pub returns-clause-stayed : goal.returns-clause-stayed
returns-clause-stayed c =
    gone_stayed c.args.scoped.now.file c.args.run.now c.last_mark-number-end.result c.loop-number.draft
    (last_of c.as_slice-lines.result.now c.args.run.now c.last_mark-number-end.result c.as_slice-lines.ensures c.last_mark-number-end.ensures) (at_end c)
