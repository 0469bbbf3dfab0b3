use Rattle.ta_search.proofs.HoleLines.{declared_is, no_highest, no_hole_name, no_low, no_lowest, no_name}
use Rattle.ta_search.proofs.lines.declared.Goals as goal

pub returns-in_err-name : goal.returns-in_err-name
returns-in_err-name c = rw c.from_residual-in_err-name.ensures (no_name c.args.line.now c.in_ok-rest.rest.now c.in_ok-rest.ensures c.in_err-name.ensures)

pub returns-in_err-low : goal.returns-in_err-low
returns-in_err-low c = rw c.from_residual-in_err-low.ensures
    (no_low c.args.line.now c.in_ok-rest.rest.now c.in_ok-name.name.now c.in_ok-name.numbers.now c.in_ok-rest.ensures c.in_ok-name.ensures c.in_err-low.ensures)

pub returns-in_err-hole_name : goal.returns-in_err-hole_name
returns-in_err-hole_name c = rw c.from_residual-in_err-hole_name.ensures
    (no_hole_name c.args.line.now c.in_ok-rest.rest.now c.in_ok-name.name.now c.in_ok-name.numbers.now c.in_ok-rest.ensures c.in_ok-name.ensures
    c.in_err-hole_name.ensures)

pub returns-in_err-short_number : goal.returns-in_err-short_number
returns-in_err-short_number c =
    rw c.from_residual-in_err-short_number.ensures
    (no_lowest c.args.line.now c.in_ok-rest.rest.now c.in_ok-name.name.now c.in_ok-name.numbers.now c.in_ok-low.low.now c.in_ok-low.high.now
    c.in_ok-rest.ensures c.in_ok-name.ensures c.in_ok-low.ensures c.in_err-short_number.ensures)

pub returns-in_err-short_number-2 : goal.returns-in_err-short_number-2
returns-in_err-short_number-2 c =
    rw c.from_residual-in_err-short_number-2.ensures
    (no_highest c.args.line.now c.in_ok-rest.rest.now c.in_ok-name.name.now c.in_ok-name.numbers.now c.in_ok-low.low.now c.in_ok-low.high.now
    c.in_ok-rest.ensures c.in_ok-name.ensures c.in_ok-low.ensures c.in_err-short_number-2.ensures)

pub returns : goal.returns
returns c =
    declared_is c.args.line.now c.in_ok-rest.rest.now c.in_ok-name.name.now c.in_ok-name.numbers.now c.in_ok-low.low.now c.in_ok-low.high.now
    c.in_ok-hole_name.field-0.now c.in_ok-short_number.field-0 c.in_ok-short_number-2.field-0 c.in_ok-rest.ensures c.in_ok-name.ensures c.in_ok-low.ensures
    c.in_ok-hole_name.ensures c.in_ok-short_number.ensures c.in_ok-short_number-2.ensures
