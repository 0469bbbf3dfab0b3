use Rattle.ta_replay.proofs.Common.{◌≡◌, ◌<◌, ◌+◌, length, get_or, ap, subst, ◌∙◌, arith, length_push, get_or_default, err_is, rises_at, start_slot}
use Rattle.ta_replay.proofs.Common.{start_slots}
use Rattle.ta_replay.proofs.Decimals.{stored}
use Rattle.ta_replay.proofs.ValueLines.{values_none, value_step, value_stop}
use Rattle.ta_replay.proofs.reading.read_counts.Goals as goal

pub location_name-name-requires : goal.location_name-name-requires
location_name-name-requires c =
    let a = c.args.automaton.now in
    let i = c.loop-location.location-index in
    let within : i < length a.initial = subst (λ xs. i < length xs) c.as_slice-location-items.ensures c.loop-location-test.true in
    rw c.as_slice-location-items.ensures (rises_at 0 (length a.locations) a.initial i 0 a.shape.initial_rises within)

pub loop-location-init : goal.loop-location-init
loop-location-init c = rw c.new-values.ensures.items (record { begun = values_none (start_slots c.args.automaton.now) c.args.bytes.now; count = omega arith })

pub returns-in_err-value-clause-fault : goal.returns-in_err-value-clause-fault
returns-in_err-value-clause-fault c =
    let a = c.args.automaton.now in
    let inv = c.loop-location.invariant in
    let items = c.as_slice-location-items.result.now in
    let i = c.loop-location.location-index in
    let x = get_or items i 0 in
    let place : c.args.first + c.len.result ≡ c.args.first + length c.loop-location.values.items = omega (arith, c.len.ensures, c.loop-location.values.ok.0) in
    rw (err_is c.from_residual.result _ c.from_residual.ensures.1)
    (value_stop (start_slot a) a.initial items i x c.args.bytes.now c.loop-location.rest.now c.as_bytes.result.now c.loop-location.values.items c.args.first
    (c.args.first + c.len.result) c.in_err-value.field-0.0 inv.begun c.as_slice-location-items.ensures inv.count c.loop-location-test.true
    (get_or_default items i 0 x c.loop-location-test.true) (c.as_bytes.ensures.value ∙ c.location_name-name.ensures) place c.in_err-value.ensures.fault)

pub loop-location-preserved : goal.loop-location-preserved
loop-location-preserved c =
    let a = c.args.automaton.now in
    let inv = c.loop-location.invariant in
    let read = c.in_ok-value.ensures.read in
    let items = c.as_slice-location-items.result.now in
    let i = c.loop-location.location-index in
    let x = get_or items i 0 in
    rw (c.in_ok-push.ensures.items, stored c.in_ok-value.value read.number)
    (record {
      begun = value_step (start_slot a) a.initial items i x c.args.bytes.now c.loop-location.rest.now c.in_ok-value.behind.now c.as_bytes.result.now
          c.loop-location.values.items c.in_ok-value.value inv.begun c.as_slice-location-items.ensures inv.count c.loop-location-test.true
          (get_or_default items i 0 x c.loop-location-test.true) (c.as_bytes.ensures.value ∙ c.location_name-name.ensures) read;
      count = length_push c.loop-location.values.items c.in_ok-value.value ∙ ap (λ n. n + 1) inv.count;
    })
