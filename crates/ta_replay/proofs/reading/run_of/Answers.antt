use Rattle.ta_replay.proofs.Common.{◌≡◌, ◌+◌, ◌++◌, length, ◌∙◌, arith, length-append, length-map, err_is, rises_length_added, parameter_slot, start_slot}
use Rattle.ta_replay.proofs.WholeTexts.{whole_read, parameters_fault, counts_fault, lines_fault}
use Rattle.ta_replay.proofs.reading.run_of.Goals as goal
use Rattle.ta_base.proofs.Lists.{read_within}

pub returns-in_err-parameters-clause-fault : goal.returns-in_err-parameters-clause-fault
returns-in_err-parameters-clause-fault c =
    rw (err_is c.from_residual-in_err-parameters.result _ c.from_residual-in_err-parameters.ensures.1)
    (parameters_fault c.args.file.now c.args.bytes.now c.in_ok-number.rest.now c.in_ok-number.number c.in_err-parameters.field-0.0
    c.in_ok-number.ensures.read c.in_err-parameters.ensures.fault)

pub returns-in_err-counts-clause-fault : goal.returns-in_err-counts-clause-fault
returns-in_err-counts-clause-fault c =
    let place : 2 + c.len.result ≡ 2 + length c.in_ok-parameters.parameters.items = omega (arith, c.len.ensures, c.in_ok-parameters.parameters.ok.0) in
    rw (err_is c.from_residual-in_err-counts.result _ c.from_residual-in_err-counts.ensures.1)
    (counts_fault c.args.file.now c.args.bytes.now c.in_ok-number.rest.now c.in_ok-parameters.rest.now c.in_ok-number.number (2 + c.len.result)
    c.in_ok-parameters.parameters.items c.in_err-counts.field-0.0 c.in_ok-number.ensures.read c.in_ok-parameters.ensures.read place
    c.in_err-counts.ensures.fault)

pub read_steps-requires-clause-room : goal.read_steps-requires-clause-room
read_steps-requires-clause-room c =
    let a = c.args.file.now.automaton in
    let initial = rises_length_added 0 (length a.locations) a.initial (omega arith) a.shape.initial_rises in
    let locations = a.shape.limits.locations_limit in
    let parameters = a.shape.limits.parameters_limit in
    let first = c.in_ok-parameters.ensures.read.all ∙ length-map a.parameters parameter_slot in
    let second = c.in_ok-counts.ensures.read.all ∙ length-map a.initial (start_slot a) in
    omega (arith, c.len.ensures, c.in_ok-parameters.parameters.ok.0, c.len-2.ensures, c.in_ok-counts.counts.ok.0)

pub returns-in_err-lines-clause-fault : goal.returns-in_err-lines-clause-fault
returns-in_err-lines-clause-fault c =
    let named = read_within c.args.file.now.patterns c.as_slice.result.now c.in_ok-number.number c.index-as_slice-place.result c.as_slice.ensures
    c.in_ok-number.ensures.read.exists c.index-as_slice-place.is in
    let place : 2 + c.len.result + c.len-2.result ≡ 2 + length (c.in_ok-parameters.parameters.items ++ c.in_ok-counts.counts.items) = omega (
      arith,
      c.len.ensures,
      c.in_ok-parameters.parameters.ok.0,
      c.len-2.ensures,
      c.in_ok-counts.counts.ok.0,
      length-append
          c.in_ok-parameters.parameters.items c.in_ok-counts.counts.items,
    ) in
    rw (err_is c.from_residual-in_err-lines.result _ c.from_residual-in_err-lines.ensures.1)
    (lines_fault c.args.file.now c.args.bytes.now c.in_ok-number.rest.now c.in_ok-parameters.rest.now c.in_ok-counts.rest.now c.in_ok-number.number
    (2 + c.len.result + c.len-2.result) c.index-as_slice-place.result c.in_ok-parameters.parameters.items c.in_ok-counts.counts.items
    c.in_err-lines.field-0.0 c.in_ok-number.ensures.read named c.in_ok-parameters.ensures.read c.in_ok-counts.ensures.read place
    c.in_err-lines.ensures.fault)

pub returns-clause-text : goal.returns-clause-text
returns-clause-text c =
    let named = read_within c.args.file.now.patterns c.as_slice.result.now c.in_ok-number.number c.index-as_slice-place.result c.as_slice.ensures
    c.in_ok-number.ensures.read.exists c.index-as_slice-place.is in
    rw (c.from_vec.ensures, c.from_vec-2.ensures, c.from_vec-3.ensures)
    (whole_read c.args.file.now c.args.bytes.now c.in_ok-number.rest.now c.in_ok-parameters.rest.now c.in_ok-counts.rest.now c.in_ok-number.number
    c.index-as_slice-place.result c.in_ok-parameters.parameters.items c.in_ok-counts.counts.items c.in_ok-lines.lines.items c.in_ok-number.ensures.read
    named c.in_ok-parameters.ensures.read c.in_ok-counts.ensures.read c.in_ok-lines.ensures.read)
