use Rattle.ta_counter.proofs.Common.{refl, err_is, each_at, all_passed, one_passed, read_same, IsNormal, point_of, Row, length, RowPasses}
use Rattle.ta_counter.proofs.Rows.{row_passes, row_fails}
use Rattle.ta_counter.proofs.condition.rows_hold.Goals as goal

pub loop-row-preserved : goal.loop-row-preserved
loop-row-preserved c =
    let rows = c.args.rows.now in
    let named = read_same rows rows c.loop-row.row-index c.row-item.result refl c.loop-row-test.true c.row-item.is in
    one_passed (λ j (row : Row). RowPasses (point_of c.args.values.now) row) rows c.loop-row.row-index c.row-item.result named
    (row_passes _ _ _ c.in_ok-row_holds.ensures c.if-not-branch.false) c.loop-row.invariant

pub row_holds-requires : goal.row_holds-requires
row_holds-requires c =
    let rows = c.args.rows.now in
    let named = read_same rows rows c.loop-row.row-index c.row-item.result refl c.loop-row-test.true c.row-item.is in
    each_at (λ (row : Row). IsNormal 0 (length c.args.values.now) row.form.terms) rows c.loop-row.row-index c.row-item.result c.requires named

pub returns-in_err-row_holds : goal.returns-in_err-row_holds
returns-in_err-row_holds c =
    let rows = c.args.rows.now in
    let named = read_same rows rows c.loop-row.row-index c.row-item.result refl c.loop-row-test.true c.row-item.is in
    rw (err_is c.from_residual.result _ c.from_residual.ensures.1)
    (c.loop-row.row-index, record { item = c.row-item.result; at = named; before = c.loop-row.invariant; bad = c.in_err-row_holds.ensures })

pub returns-then-not-branch : goal.returns-then-not-branch
returns-then-not-branch c =
    let rows = c.args.rows.now in
    let named = read_same rows rows c.loop-row.row-index c.row-item.result refl c.loop-row-test.true c.row-item.is in (
      c.loop-row.row-index,
      record {
        item = c.row-item.result;
        at = named;
        before = c.loop-row.invariant;
        bad = row_fails _ _ _ c.in_ok-row_holds.ensures
            c.if-not-branch.true;
      },
    )

pub returns : goal.returns
returns c =
    all_passed (λ j (row : Row). RowPasses (point_of c.args.values.now) row) c.args.rows.now c.loop-row.row-index c.loop-row-test.false c.loop-row.invariant
