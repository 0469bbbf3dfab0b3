use Rattle.ta_meaning.proofs.Common.{inr, refl, err_is, kinds_of, empty_both}
use Rattle.ta_meaning.proofs.Answering.{append-left-first, append-right-first}
use Rattle.ta_meaning.proofs.PatternSteps.{event_resolved}
use Rattle.ta_meaning.proofs.patterns.event_parts.Goals as goal

pub returns-in_err-declare : goal.returns-in_err-declare
returns-in_err-declare c = rw (err_is c.from_residual.result _ c.from_residual.ensures.1)
    (append-left-first _ _ c.in_err-declare.field-0.0 c.in_err-declare.ensures.faults)

pub returns-in_err-after : goal.returns-in_err-after
returns-in_err-after c = rw (err_is c.from_residual-in_err-after.result _ c.from_residual-in_err-after.ensures.1)
    (append-right-first _ _ c.in_err-after.field-0.0 c.in_ok-declare.ensures.faults.0
    (append-left-first _ _ c.in_err-after.field-0.0 (inr (rw c.as_slice.ensures at c.in_err-after.ensures))))

pub returns-in_err-condition : goal.returns-in_err-condition
returns-in_err-condition c = rw (err_is c.from_residual-in_err-condition.result _ c.from_residual-in_err-condition.ensures.1)
    (append-right-first _ _ c.in_err-condition.field-0.0 c.in_ok-declare.ensures.faults.0
    (append-right-first _ _ c.in_err-condition.field-0.0 (rw c.as_slice.ensures at c.in_ok-after.ensures.0)
    (rw c.as_slice-2.ensures at c.in_err-condition.ensures)))

pub returns : goal.returns
returns c =
    let after = rw c.as_slice.ensures at c.in_ok-after.ensures in
    let condition = rw c.as_slice-2.ensures at c.in_ok-condition.ensures in (
      empty_both _ _ c.in_ok-declare.ensures.faults.0 (empty_both _ _ after.0 condition.0),
      event_resolved (kinds_of c.args.places.now) c.args.names.now c.args.event.now _ _ c.requires.distinct c.in_ok-declare.ensures.faults.0
          c.in_ok-declare.ensures.faults.1 refl after.1 condition.1,
    )
