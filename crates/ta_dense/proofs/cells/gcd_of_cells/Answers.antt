use Rattle.ta_dense.proofs.Common.{ap, ◌∙◌, sym, drop, pos, get_or, rules, to_z-of_z, at_drop_more, SFits, w128, gcd_of_is, gcd_of, gcd_with}
use Rattle.ta_dense.proofs.cells.gcd_of_cells.Goals as goal
use Rattle.ta_dense.proofs.Divide.{gcd_with-one}

pub loop-cell-preserved : goal.loop-cell-preserved
loop-cell-preserved c =
    let fx : SFits w128 (get_or c.args.cells.now c.loop-cell.cell-index (pos 0)) = search rules in
    let u = simp to_z-of_z at c.unsigned_abs.ensures.value in
    let v = gcd_of_is _ _ _ c.gcd_natural-divisor.ensures.value ∙ ap (gcd_of c.loop-cell.divisor) u in
    record {
      bound = c.gcd_natural-divisor.ensures.fits;
      rest = rw v (sym (at_drop_more (gcd_with c.loop-cell.divisor) c.args.cells.now c.loop-cell.cell-index (pos 0) c.loop-cell-test.true)
          ∙ c.loop-cell.invariant.rest);
    }

pub returns-then-divisor-eq1-clause-value : goal.returns-then-divisor-eq1-clause-value
returns-then-divisor-eq1-clause-value c =
    let left = drop c.loop-cell.cell-index c.args.cells.now in
    sym (gcd_with-one left) ∙ ap (λ g. gcd_with g left) (sym c.if-divisor-eq1.true) ∙ c.loop-cell.invariant.rest
