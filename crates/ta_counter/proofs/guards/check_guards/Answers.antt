use Rattle.ta_counter.proofs.Common.{List, length, ap, sym, subst, err_is, IfErr-weaker, on_ok_weaker, point_of, Row, RowsOver}
use Rattle.ta_counter.proofs.Guarding.{rise_rows_over, fall_rows_over, rise_fault, fall_fault}
use Rattle.ta_counter.proofs.guards.check_guards.Goals as goal

pub check_rows-requires-clause-over : goal.check_rows-requires-clause-over
check_rows-requires-clause-over c =
    subst (RowsOver (length c.args.values.now)) (sym c.as_slice-rise.ensures) (rise_rows_over c.args.automaton.now (length c.args.values.now) c.requires.places)

pub check_rows-requires-2-clause-over : goal.check_rows-requires-2-clause-over
check_rows-requires-2-clause-over c =
    subst (RowsOver (length c.args.before_last.now)) (sym c.as_slice-fall.ensures)
    (fall_rows_over c.args.automaton.now (length c.args.before_last.now) c.requires.places_last)

pub returns-in_err-check_rows-clause-fails : goal.returns-in_err-check_rows-clause-fails
returns-in_err-check_rows-clause-fails c =
    let told = rw (c.from.ensures, c.as_slice-rise.ensures) at c.in_err-check_rows.ensures.fails in
    rw (err_is c.from_residual.result _ c.from_residual.ensures.1)
    (rise_fault c.args.automaton.now c.args.rule.now (point_of c.args.values.now) (point_of c.args.before_last.now) (length c.args.values.now) _
    c.requires.places told)

pub returns-clause-rise : goal.returns-clause-rise
returns-clause-rise c =
    let told = rw (c.from.ensures, c.as_slice-rise.ensures) at c.in_ok-check_rows.ensures.passes in
    on_ok_weaker c.check_rows-2.result (λ _. told) c.check_rows-2.ensures.passes

pub returns-clause-fall : goal.returns-clause-fall
returns-clause-fall c = rw (c.from-2.ensures, c.as_slice-fall.ensures) at c.check_rows-2.ensures.passes

pub returns-clause-fails : goal.returns-clause-fails
returns-clause-fails c =
    let a = c.args.automaton.now in
    let rule = c.args.rule.now in
    let told = rw (c.from.ensures, c.as_slice-rise.ensures) at c.in_ok-check_rows.ensures.passes in
    let fails = rw (c.from-2.ensures, c.as_slice-fall.ensures) at c.check_rows-2.ensures.fails in
    let count = ap (λ (rows : List Row). length rows) c.as_slice-rise.ensures in
    IfErr-weaker c.check_rows-2.result _ _
    (λ fault h. fall_fault a rule (point_of c.args.values.now) (point_of c.args.before_last.now) (length c.args.before_last.now)
    (length c.as_slice-rise.result.now) fault c.requires.places_last count told h) fails
