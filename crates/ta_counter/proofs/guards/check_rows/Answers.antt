use Rattle.ta_counter.proofs.Common.{refl, sym, ◌∙◌, IsBitSet, false≢true, err_is, one_passed, read_same, point_of, Row, RowPasses, length}
use Rattle.ta_counter.proofs.Guarding.{masked_fault}
use Rattle.ta_counter.proofs.guards.check_rows.Goals as goal
use Rattle.ta_counter.proofs.guards.check_rows.Goals.{then-contains+in_ok-check_row, else-contains}

pub loop-number-preserved : goal.loop-number-preserved
loop-number-preserved c =
    let rows = c.args.rows.now in
    let named = read_same rows rows c.loop-number.number c.index-rows-number.result refl c.loop-number-test.true c.index-rows-number.is in
    elim c.if-contains.branch [
      | then-contains+in_ok-check_row w ↦ one_passed (λ j (row : Row). IsBitSet c.args.mask j → RowPasses (point_of c.args.values.now) row) rows
          c.loop-number.number c.index-rows-number.result named (λ bit. w.in_ok-check_row.ensures.passes) c.loop-number.invariant
      | else-contains w ↦ one_passed (λ j (row : Row). IsBitSet c.args.mask j → RowPasses (point_of c.args.values.now) row) rows c.loop-number.number
          c.index-rows-number.result named (λ bit. absurd (false≢true (sym w.if-contains.false ∙ c.contains.ensures.tells.1 bit))) c.loop-number.invariant
    ]

pub returns-in_err-check_row-clause-fails : goal.returns-in_err-check_row-clause-fails
returns-in_err-check_row-clause-fails c =
    let rows = c.args.rows.now in
    let named = read_same rows rows c.loop-number.number c.index-rows-number.result refl c.loop-number-test.true c.index-rows-number.is in
    rw (err_is c.from_residual.result _ c.from_residual.ensures.1)
    (masked_fault (point_of c.args.values.now) c.args.mask rows (length c.args.values.now) c.args.first c.loop-number.number c.index-rows-number.result _
    c.loop-number.invariant named (c.contains.ensures.tells.0 c.if-contains.true) c.in_err-check_row.ensures.fails)
