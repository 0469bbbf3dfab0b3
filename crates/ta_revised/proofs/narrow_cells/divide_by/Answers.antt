use Rattle.ta_revised.proofs.Common.{arith, pos, ℤ, get_or, rules, int_div, to_z-of_z, map_over_more, get_or_default, SFits, w16}
use Rattle.ta_revised.proofs.narrow_cells.divide_by.Goals as goal

pub loop-cell-preserved : goal.loop-cell-preserved
loop-cell-preserved c =
    let fd = c.ranges.divisor in
    let fx : SFits w16 (get_or c.loop-cell.cells c.loop-cell.cell-index (pos 0)) = search rules in
    let fr : SFits w16 c.quotient.result = search rules in
    let e = simp to_z-of_z at c.quotient.ensures in
    let inv = simp to_z-of_z at c.loop-cell.invariant in
    simp to_z-of_z (rw e (map_over_more (λ (z : ℤ). int_div z c.args.divisor) c.args.cells.now c.loop-cell.cells c.loop-cell.cell-index
    (get_or c.loop-cell.cells c.loop-cell.cell-index (pos 0)) c.loop-cell-test.true inv
    (get_or_default c.loop-cell.cells c.loop-cell.cell-index (pos 0) (get_or c.loop-cell.cells c.loop-cell.cell-index (pos 0)) (omega arith))))
