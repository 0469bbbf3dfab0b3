use Rattle.ta_meaning.proofs.Common.{Ok, Err, err_is, empty_both}
use Rattle.ta_meaning.proofs.Answering.{append-left-first, append-right-first}
use Rattle.ta_meaning.proofs.Whole.{processes-answer, resilience-answer}
use Rattle.ta_meaning.proofs.file.resolve_head.Goals as goal

pub returns-in_err-processes : goal.returns-in_err-processes
returns-in_err-processes c =
    let processes = processes-answer c.args.places.now c.args.tree.now (Err c.in_err-processes.field-0.0) c.requires c.in_err-processes.ensures in
    rw (err_is c.from_residual.result _ c.from_residual.ensures.1) (append-left-first _ _ c.in_err-processes.field-0.0 processes)

pub returns-in_err-resilience : goal.returns-in_err-resilience
returns-in_err-resilience c =
    let processes = processes-answer c.args.places.now c.args.tree.now (Ok c.in_ok-processes.processes) c.requires c.in_ok-processes.ensures in
    let resilience = resilience-answer c.args.places.now c.args.tree.now (Err c.in_err-resilience.field-0.0) c.requires
    (rw c.as_slice.ensures at c.in_err-resilience.ensures) in
    rw (err_is c.from_residual-in_err-resilience.result _ c.from_residual-in_err-resilience.ensures.1)
    (append-right-first _ _ c.in_err-resilience.field-0.0 processes.0 resilience)

pub returns : goal.returns
returns c =
    let processes = processes-answer c.args.places.now c.args.tree.now (Ok c.in_ok-processes.processes) c.requires c.in_ok-processes.ensures in
    let resilience = resilience-answer c.args.places.now c.args.tree.now (Ok c.in_ok-resilience.resilience) c.requires
    (rw c.as_slice.ensures at c.in_ok-resilience.ensures) in
    (empty_both _ _ processes.0 resilience.0, record { processes = processes.1; resilience = resilience.1 })
