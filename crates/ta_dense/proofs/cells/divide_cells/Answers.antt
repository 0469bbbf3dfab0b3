use Rattle.ta_dense.proofs.Common.{arith, pos, ℤ, get_or, rules, int_div, to_z-of_z, quot_fits, map_over_more, get_or_default, SFits, w128}
use Rattle.ta_dense.proofs.cells.divide_cells.Goals as goal

pub loop-cell-preserved : goal.loop-cell-preserved
loop-cell-preserved c =
    let fd = c.ranges.divisor in
    let fx : SFits w128 (get_or c.loop-cell.cells c.loop-cell.cell-index (pos 0)) = search rules in
    let fq : SFits w128 (int_div (get_or c.loop-cell.cells c.loop-cell.cell-index (pos 0)) c.args.divisor) = quot_fits w128 _ _ fx c.requires in
    let inv = simp to_z-of_z at c.loop-cell.invariant in
    simp to_z-of_z (map_over_more (λ (z : ℤ). int_div z c.args.divisor) c.args.cells.now c.loop-cell.cells c.loop-cell.cell-index
    (get_or c.loop-cell.cells c.loop-cell.cell-index (pos 0)) c.loop-cell-test.true inv
    (get_or_default c.loop-cell.cells c.loop-cell.cell-index (pos 0) (get_or c.loop-cell.cells c.loop-cell.cell-index (pos 0)) (omega arith)))
