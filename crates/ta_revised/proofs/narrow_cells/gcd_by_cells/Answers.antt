use Rattle.ta_revised.proofs.Common.{ap, ◌∙◌, sym, drop, pos, get_or, rules, to_z-of_z, at_drop_more, SFits, w16, gcd_with, gcd_with-one}
use Rattle.ta_revised.proofs.narrow_cells.gcd_by_cells.Goals as goal

pub loop-cell-preserved : goal.loop-cell-preserved
loop-cell-preserved c =
    let fx : SFits w16 (get_or c.args.cells.now c.loop-cell.cell-index (pos 0)) = search rules in
    let v = simp to_z-of_z at c.gcd_with_cell-divisor.ensures in
    rw v (sym (at_drop_more (gcd_with c.loop-cell.divisor) c.args.cells.now c.loop-cell.cell-index (pos 0) c.loop-cell-test.true) ∙ c.loop-cell.invariant)

pub returns-then-divisor-eq1 : goal.returns-then-divisor-eq1
returns-then-divisor-eq1 c =
    let left = drop c.loop-cell.cell-index c.args.cells.now in
    sym (gcd_with-one left) ∙ ap (λ g. gcd_with g left) (sym c.if-divisor-eq1.true) ∙ c.loop-cell.invariant
