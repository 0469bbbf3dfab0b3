use Rattle.ta_meaning.proofs.Common.{length, sym, refl, err_is, kinds_of, guards_so_far}
use Rattle.ta_meaning.proofs.PlaceNames.{parameters_count}
use Rattle.ta_meaning.proofs.GuardPlaces.{guard_none, guard_resolved, guard_first, one_row_from}
use Rattle.ta_meaning.proofs.GuardNumbers.{not_threshold, rise_refused, rise_numbered, fall_refused, fall_numbered}
use Rattle.ta_meaning.proofs.guards.number_guard.Goals as goal

pub returns-in_err-rows : goal.returns-in_err-rows
returns-in_err-rows c =
    let ns = kinds_of c.args.places.now in
    rw (err_is c.from_residual.result _ c.from_residual.ensures.1)
    (guard_first c.args.limits.now c.args.places.now (length ns.parameters) (guards_so_far ns c.args.guards.now) c.args.comparison.now c.in_err-rows.field-0.0
    c.in_err-rows.ensures)

pub returns-in-None : goal.returns-in-None
returns-in-None c =
    let places = c.args.places.now in
    let o = c.in_ok-rows.ensures in
    let s = rw (sym (parameters_count places)) at c.in-None.ensures.none in
    not_threshold c.args.limits.now (kinds_of places) c.args.guards.now c.args.comparison.now c.in_ok-rows.rows (guard_none places c.args.comparison.now o.0)
    (guard_resolved places c.args.comparison.now c.in_ok-rows.rows o.1) s

pub returns-in_err-number-in-Some-Rise : goal.returns-in_err-number-in-Some-Rise
returns-in_err-number-in-Some-Rise c =
    let places = c.args.places.now in
    let o = c.in_ok-rows.ensures in
    let s = rw (c.in-Some-Rise.field-0-is, sym (parameters_count places)) at c.in-Some-Rise.ensures.some in
    rw (err_is c.from_residual-in_err-number-in-Some-Rise.result _ c.from_residual-in_err-number-in-Some-Rise.ensures.1)
    (rise_refused c.args.limits.now (kinds_of places) c.args.guards.now c.args.comparison.now c.in-Some-Rise.row c.in_err-number-in-Some-Rise.field-0.0
    c.requires
    (one_row_from places c.args.comparison.now c.in_ok-rows.rows c.in-Some-Rise.row o.0 o.1 s.0) s.1 c.in_err-number-in-Some-Rise.ensures)

pub returns-in_ok-number-in-Some-Rise : goal.returns-in_ok-number-in-Some-Rise
returns-in_ok-number-in-Some-Rise c =
    let places = c.args.places.now in
    let o = c.in_ok-rows.ensures in
    let s = rw (c.in-Some-Rise.field-0-is, sym (parameters_count places)) at c.in-Some-Rise.ensures.some in
    rise_numbered c.args.limits.now (kinds_of places) c.args.guards.now _ c.args.comparison.now c.in-Some-Rise.row c.in_ok-number-in-Some-Rise.number c.requires
    (one_row_from places c.args.comparison.now c.in_ok-rows.rows c.in-Some-Rise.row o.0 o.1 s.0) s.1 c.in_ok-number-in-Some-Rise.ensures refl

pub returns-in_err-number-in-Some-Fall : goal.returns-in_err-number-in-Some-Fall
returns-in_err-number-in-Some-Fall c =
    let places = c.args.places.now in
    let o = c.in_ok-rows.ensures in
    let s = rw (c.in-Some-Fall.field-0-is, sym (parameters_count places)) at c.in-Some-Fall.ensures.some in
    rw (err_is c.from_residual-in_err-number-in-Some-Fall.result _ c.from_residual-in_err-number-in-Some-Fall.ensures.1)
    (fall_refused c.args.limits.now (kinds_of places) c.args.guards.now c.args.comparison.now c.in-Some-Fall.row c.in_err-number-in-Some-Fall.field-0.0
    c.requires
    (one_row_from places c.args.comparison.now c.in_ok-rows.rows c.in-Some-Fall.row o.0 o.1 s.0) s.1 s.2 c.in_err-number-in-Some-Fall.ensures)

pub returns-in_ok-number-in-Some-Fall : goal.returns-in_ok-number-in-Some-Fall
returns-in_ok-number-in-Some-Fall c =
    let places = c.args.places.now in
    let o = c.in_ok-rows.ensures in
    let s = rw (c.in-Some-Fall.field-0-is, sym (parameters_count places)) at c.in-Some-Fall.ensures.some in
    fall_numbered c.args.limits.now (kinds_of places) c.args.guards.now _ c.args.comparison.now c.in-Some-Fall.row c.in_ok-number-in-Some-Fall.number c.requires
    (one_row_from places c.args.comparison.now c.in_ok-rows.rows c.in-Some-Fall.row o.0 o.1 s.0) s.1 s.2 c.in_ok-number-in-Some-Fall.ensures refl
