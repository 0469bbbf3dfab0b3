use Rattle.ta_counter.proofs.Common.{◌≤◌, ap, arith, length, subst, List, err_is, all_passed, one_passed, read_same, point_of, Comparison, RowFails}
use Rattle.ta_counter.proofs.Common.{RowOutOfRange, RowsPass, RowsStop}
use Rattle.ta_counter.proofs.Rows.{rows_pass, rows_fail, holds_from, fails_from}
use Rattle.ta_counter.proofs.condition.first_false.Goals as goal

pub loop-number-preserved : goal.loop-number-preserved
loop-number-preserved c =
    let point = point_of c.args.values.now in
    let named = read_same c.args.condition.now.comparisons c.as_slice-comparison-items.result.now c.loop-number.number c.comparison-item.result
    c.as_slice-comparison-items.ensures c.loop-number-test.true c.comparison-item.is in
    let passes = subst (RowsPass point) c.as_slice.ensures (rows_pass _ _ _ c.in_ok-rows_hold.ensures c.if-not-branch.false) in
    one_passed (λ j (comparison : Comparison). RowsPass point comparison.rows) c.args.condition.now.comparisons c.loop-number.number c.comparison-item.result
    named passes c.loop-number.invariant

pub returns-in_err-rows_hold-clause-answer : goal.returns-in_err-rows_hold-clause-answer
returns-in_err-rows_hold-clause-answer c =
    let point = point_of c.args.values.now in
    let named = read_same c.args.condition.now.comparisons c.as_slice-comparison-items.result.now c.loop-number.number c.comparison-item.result
    c.as_slice-comparison-items.ensures c.loop-number-test.true c.comparison-item.is in
    let stops : RowsStop point (RowOutOfRange point) c.comparison-item.result.rows = subst (RowsStop point (RowOutOfRange point)) c.as_slice.ensures
    c.in_err-rows_hold.ensures in
    rw (err_is c.from_residual.result _ c.from_residual.ensures.1)
    (c.loop-number.number, record { item = c.comparison-item.result; at = named; before = c.loop-number.invariant; bad = stops })

pub returns-then-not-branch-clause-answer : goal.returns-then-not-branch-clause-answer
returns-then-not-branch-clause-answer c =
    let point = point_of c.args.values.now in
    let named = read_same c.args.condition.now.comparisons c.as_slice-comparison-items.result.now c.loop-number.number c.comparison-item.result
    c.as_slice-comparison-items.ensures c.loop-number-test.true c.comparison-item.is in
    let stops = subst (RowsStop point (RowFails point)) c.as_slice.ensures (rows_fail _ _ _ c.in_ok-rows_hold.ensures c.if-not-branch.true) in
    record { item = c.comparison-item.result; at = named; before = c.loop-number.invariant; bad = stops }

pub returns-then-not-branch-clause-fails : goal.returns-then-not-branch-clause-fails
returns-then-not-branch-clause-fails c =
    fails_from (point_of c.args.values.now) c.args.condition.now c.loop-number.number (returns-then-not-branch-clause-answer c)

pub returns-clause-answer : goal.returns-clause-answer
returns-clause-answer c =
    let enough : length c.args.condition.now.comparisons ≤ c.loop-number.number =
    (let same = ap (λ (xs : List Comparison). length xs) c.as_slice-comparison-items.ensures in let past = c.loop-number-test.false in omega arith) in
    all_passed (λ j (comparison : Comparison). RowsPass (point_of c.args.values.now) comparison.rows) c.args.condition.now.comparisons c.loop-number.number
    enough c.loop-number.invariant

pub returns-clause-holds : goal.returns-clause-holds
returns-clause-holds c = holds_from (point_of c.args.values.now) c.args.condition.now (returns-clause-answer c)
