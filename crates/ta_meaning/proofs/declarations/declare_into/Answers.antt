use Rattle.ta_meaning.proofs.Common.{inr, err_is}
use Rattle.ta_meaning.proofs.DeclaredTrees.{InitialFits, after_parameters, after_shared, after_all, parameters_fit, shared_fit, all_fit, stops_at_name}
use Rattle.ta_meaning.proofs.DeclaredTrees.{stops_at_parameters, stops_at_shared, stops_at_initial, stops_at_locations}
use Rattle.ta_meaning.proofs.declarations.declare_into.Goals as goal

pub returns-in_err-check_length : goal.returns-in_err-check_length
returns-in_err-check_length c = rw (err_is c.from_residual.result _ c.from_residual.ensures.1)
    (stops_at_name c.args.tree.now c.in_err-check_length.field-0.0 (inr c.in_err-check_length.ensures))

pub returns-in_err-declare_names : goal.returns-in_err-declare_names
returns-in_err-declare_names c =
    let t = c.args.tree.now in
    rw (err_is c.from_residual-in_err-declare_names.result _ c.from_residual-in_err-declare_names.ensures.1)
    (stops_at_parameters t c.args.names.now c.as_slice.result.now c.in_err-declare_names.field-0.0 c.in_ok-check_length.ensures.0 c.requires
    c.as_slice.ensures c.in_err-declare_names.ensures)

pub returns-in_err-declare_names-2 : goal.returns-in_err-declare_names-2
returns-in_err-declare_names-2 c =
    let t = c.args.tree.now in
    let fit = parameters_fit t c.args.names.now c.as_slice.result.now c.in_ok-check_length.ensures.0 c.requires c.as_slice.ensures
    c.in_ok-declare_names.ensures.0 in
    let names = after_parameters t c.args.names.now c.declare_names.new.names c.as_slice.result.now c.requires c.as_slice.ensures
    c.in_ok-declare_names.ensures.1 in
    rw (err_is c.from_residual-in_err-declare_names-2.result _ c.from_residual-in_err-declare_names-2.ensures.1)
    (stops_at_shared t c.declare_names.new.names c.as_slice-2.result.now c.in_err-declare_names-2.field-0.0 fit names c.as_slice-2.ensures
    c.in_err-declare_names-2.ensures)

pub returns-in_err-check_initial : goal.returns-in_err-check_initial
returns-in_err-check_initial c =
    let t = c.args.tree.now in
    let fit = parameters_fit t c.args.names.now c.as_slice.result.now c.in_ok-check_length.ensures.0 c.requires c.as_slice.ensures
    c.in_ok-declare_names.ensures.0 in
    let names = after_parameters t c.args.names.now c.declare_names.new.names c.as_slice.result.now c.requires c.as_slice.ensures
    c.in_ok-declare_names.ensures.1 in
    let shared = shared_fit t c.declare_names.new.names c.as_slice-2.result.now fit names c.as_slice-2.ensures c.in_ok-declare_names-2.ensures.0 in
    rw (err_is c.from_residual-in_err-check_initial.result _ c.from_residual-in_err-check_initial.ensures.1)
    (stops_at_initial t c.in_err-check_initial.field-0.0 shared (inr c.in_err-check_initial.ensures))

pub returns-in_err-declare_locations : goal.returns-in_err-declare_locations
returns-in_err-declare_locations c =
    let t = c.args.tree.now in
    let fit = parameters_fit t c.args.names.now c.as_slice.result.now c.in_ok-check_length.ensures.0 c.requires c.as_slice.ensures
    c.in_ok-declare_names.ensures.0 in
    let names = after_parameters t c.args.names.now c.declare_names.new.names c.as_slice.result.now c.requires c.as_slice.ensures
    c.in_ok-declare_names.ensures.1 in
    let shared = shared_fit t c.declare_names.new.names c.as_slice-2.result.now fit names c.as_slice-2.ensures c.in_ok-declare_names-2.ensures.0 in
    let guards = after_shared t c.declare_names.new.names c.declare_names-2.new.names c.as_slice-2.result.now names c.as_slice-2.ensures
    c.in_ok-declare_names-2.ensures.1 in
    let initial : InitialFits t = record { before = shared; initial = c.in_ok-check_initial.ensures.0 } in
    rw (err_is c.from_residual-in_err-declare_locations.result _ c.from_residual-in_err-declare_locations.ensures.1)
    (stops_at_locations t c.declare_names-2.new.names c.as_slice-3.result.now c.in_err-declare_locations.field-0.0 initial guards c.as_slice-3.ensures
    c.in_err-declare_locations.ensures)

pub returns : goal.returns
returns c =
    let t = c.args.tree.now in
    let fit = parameters_fit t c.args.names.now c.as_slice.result.now c.in_ok-check_length.ensures.0 c.requires c.as_slice.ensures
    c.in_ok-declare_names.ensures.0 in
    let names = after_parameters t c.args.names.now c.declare_names.new.names c.as_slice.result.now c.requires c.as_slice.ensures
    c.in_ok-declare_names.ensures.1 in
    let shared = shared_fit t c.declare_names.new.names c.as_slice-2.result.now fit names c.as_slice-2.ensures c.in_ok-declare_names-2.ensures.0 in
    let guards = after_shared t c.declare_names.new.names c.declare_names-2.new.names c.as_slice-2.result.now names c.as_slice-2.ensures
    c.in_ok-declare_names-2.ensures.1 in
    let initial : InitialFits t = record { before = shared; initial = c.in_ok-check_initial.ensures.0 } in (
      all_fit t c.declare_names-2.new.names c.as_slice-3.result.now initial guards c.as_slice-3.ensures c.in_ok-declare_locations.ensures.0,
      after_all t c.declare_names-2.new.names c.declare_locations.new.names c.as_slice-3.result.now guards c.as_slice-3.ensures
          c.in_ok-declare_locations.ensures.1,
    )
