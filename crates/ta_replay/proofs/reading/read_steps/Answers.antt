use Rattle.ta_replay.proofs.Common.{◌≡◌, ◌+◌, length, arith, err_is}
use Rattle.ta_replay.proofs.StepLines.{steps_more, steps_stop}
use Rattle.ta_replay.proofs.reading.read_steps.Goals as goal

pub returns-in_err-step-clause-fault : goal.returns-in_err-step-clause-fault
returns-in_err-step-clause-fault c =
    let place : c.args.first + c.len.result ≡ c.args.first + length c.lines.lines.items = omega (arith, c.len.ensures, c.lines.lines.ok.0) in
    rw (err_is c.from_residual.result _ c.from_residual.ensures.1)
    (steps_stop c.args.automaton.now c.args.pattern.now c.args.bytes.now c.lines.rest.now c.lines.lines.items c.args.first (c.args.first + c.len.result)
    c.in_err-step.field-0.0 c.lines.invariant place c.in_err-step.ensures.fault)

pub lines-preserved : goal.lines-preserved
lines-preserved c =
    let read = rw c.in-Some.is at c.in_ok-step.ensures.read in
    rw c.in_ok-push.ensures.items (steps_more c.args.automaton.now c.args.pattern.now c.args.bytes.now c.lines.rest.now c.in-Some.behind.now c.lines.lines.items
    c.in-Some.step c.lines.invariant read)
