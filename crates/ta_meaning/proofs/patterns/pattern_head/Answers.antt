use Rattle.ta_meaning.proofs.Common.{inr, err_is, empty_both}
use Rattle.ta_meaning.proofs.Answering.{append-left-first, append-right-first}
use Rattle.ta_meaning.proofs.patterns.pattern_head.Goals as goal

pub returns-in_err-check_declared : goal.returns-in_err-check_declared
returns-in_err-check_declared c = rw (err_is c.from_residual.result _ c.from_residual.ensures.1)
    (append-left-first _ _ c.in_err-check_declared.field-0.0 (inr c.in_err-check_declared.ensures))

pub returns-in_err-start : goal.returns-in_err-start
returns-in_err-start c = rw (err_is c.from_residual-in_err-start.result _ c.from_residual-in_err-start.ensures.1)
    (append-right-first _ _ c.in_err-start.field-0.0 c.in_ok-check_declared.ensures.0
    (append-left-first _ _ c.in_err-start.field-0.0 (rw c.as_slice.ensures at c.in_err-start.ensures)))

pub returns-in_err-empty : goal.returns-in_err-empty
returns-in_err-empty c = rw (err_is c.from_residual-in_err-empty.result _ c.from_residual-in_err-empty.ensures.1)
    (append-right-first _ _ c.in_err-empty.field-0.0 c.in_ok-check_declared.ensures.0
    (append-right-first _ _ c.in_err-empty.field-0.0 (rw c.as_slice.ensures at c.in_ok-start.ensures.0)
    (inr (rw c.as_slice-2.ensures at c.in_err-empty.ensures))))

pub returns : goal.returns
returns c =
    let start = rw c.as_slice.ensures at c.in_ok-start.ensures in
    let empty = rw c.as_slice-2.ensures at c.in_ok-empty.ensures in
    (empty_both _ _ c.in_ok-check_declared.ensures.0 (empty_both _ _ start.0 empty.0), record { start = start.1; empty = empty.1 })
