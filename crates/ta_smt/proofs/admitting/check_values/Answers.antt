use Rattle.ta_smt.proofs.Common.{◌≡◌, length, arith, sym, subst, point_of, RowsOver, RowsPass}
use Rattle.ta_smt.proofs.Admitted.{rows_over}
use Rattle.ta_smt.proofs.admitting.check_values.Goals as goal

pub check_rows-requires-clause-over : goal.check_rows-requires-clause-over
check_rows-requires-clause-over c =
    let system = c.args.system.now in
    let same : system.unknowns ≡ length c.args.values.now = omega arith in
    subst (RowsOver (length c.args.values.now)) (sym c.as_slice.ensures)
    (subst (λ n. RowsOver n system.rows) same (rows_over system.unknowns system.rows system.within))

pub returns-clause-passes : goal.returns-clause-passes
returns-clause-passes c = record {
  counted = omega arith;
  pass = subst (RowsPass (point_of c.args.values.now)) c.as_slice.ensures c.in_ok-check_rows.ensures.passes;
}
