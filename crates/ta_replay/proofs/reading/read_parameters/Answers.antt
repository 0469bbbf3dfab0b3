use Rattle.ta_replay.proofs.Common.{◌≡◌, ◌+◌, length, ap, ◌∙◌, arith, length_push, err_is, parameter_slot, parameter_slots}
use Rattle.ta_replay.proofs.Decimals.{stored}
use Rattle.ta_replay.proofs.ValueLines.{values_none, value_step, value_stop}
use Rattle.ta_replay.proofs.reading.read_parameters.Goals as goal

pub loop-name-init : goal.loop-name-init
loop-name-init c = rw c.new-values.ensures.items (record { begun = values_none (parameter_slots c.args.automaton.now) c.args.bytes.now; count = omega arith })

pub returns-in_err-value-clause-fault : goal.returns-in_err-value-clause-fault
returns-in_err-value-clause-fault c =
    let inv = c.loop-name.invariant in
    let place : 2 + c.len.result ≡ 2 + length c.loop-name.values.items = omega (arith, c.len.ensures, c.loop-name.values.ok.0) in
    rw (err_is c.from_residual.result _ c.from_residual.ensures.1)
    (value_stop parameter_slot c.args.automaton.now.parameters c.as_slice-name-items.result.now c.loop-name.name-index c.name-item.result c.args.bytes.now
    c.loop-name.rest.now c.as_bytes.result.now c.loop-name.values.items 2 (2 + c.len.result) c.in_err-value.field-0.0 inv.begun
    c.as_slice-name-items.ensures inv.count c.loop-name-test.true c.name-item.is (c.as_bytes.ensures.value ∙ c.as_str.ensures) place
    c.in_err-value.ensures.fault)

pub loop-name-preserved : goal.loop-name-preserved
loop-name-preserved c =
    let inv = c.loop-name.invariant in
    let read = c.in_ok-value.ensures.read in
    rw (c.in_ok-push.ensures.items, stored c.in_ok-value.value read.number)
    (record {
      begun = value_step parameter_slot c.args.automaton.now.parameters c.as_slice-name-items.result.now c.loop-name.name-index c.name-item.result
          c.args.bytes.now c.loop-name.rest.now c.in_ok-value.behind.now c.as_bytes.result.now c.loop-name.values.items c.in_ok-value.value inv.begun
          c.as_slice-name-items.ensures inv.count c.loop-name-test.true c.name-item.is (c.as_bytes.ensures.value ∙ c.as_str.ensures) read;
      count = length_push c.loop-name.values.items c.in_ok-value.value ∙ ap (λ n. n + 1) inv.count;
    })
