use Rattle.ta_smt.proofs.Common.{refl, err_is, all_passed, one_passed, read_same, point_of, Row, RowPasses}
use Rattle.ta_smt.proofs.Admitted.{row_stops}
use Rattle.ta_smt.proofs.admitting.check_rows.Goals as goal

pub returns-in_err-check_row-clause-fault : goal.returns-in_err-check_row-clause-fault
returns-in_err-check_row-clause-fault c =
    let rows = c.args.rows.now in
    let row = c.index-rows-number.result in
    let named = read_same rows rows c.loop-number.number row refl c.loop-number-test.true c.index-rows-number.is in
    rw (err_is c.from_residual.result _ c.from_residual.ensures.1)
    (row_stops (point_of c.args.values.now) rows c.loop-number.number row c.in_err-check_row.field-0.0 named c.loop-number.invariant
    c.in_err-check_row.ensures.fault)

pub loop-number-preserved : goal.loop-number-preserved
loop-number-preserved c =
    let rows = c.args.rows.now in
    let row = c.index-rows-number.result in
    let named = read_same rows rows c.loop-number.number row refl c.loop-number-test.true c.index-rows-number.is in
    one_passed (λ j (r : Row). RowPasses (point_of c.args.values.now) r) rows c.loop-number.number row named c.in_ok-check_row.ensures.passes
    c.loop-number.invariant

pub returns-clause-passes : goal.returns-clause-passes
returns-clause-passes c =
    all_passed (λ j (r : Row). RowPasses (point_of c.args.values.now) r) c.args.rows.now c.loop-number.number c.loop-number-test.false c.loop-number.invariant
