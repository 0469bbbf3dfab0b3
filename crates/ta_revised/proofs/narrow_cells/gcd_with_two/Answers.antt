use Rattle.ta_revised.proofs.Common.{◌∙◌, sym, pos, get_or, rules, to_z-of_z, at_drop_more, SFits, w16, gcd_with}
use Rattle.ta_revised.proofs.narrow_cells.gcd_with_two.Goals as goal

pub loop-cell-preserved : goal.loop-cell-preserved
loop-cell-preserved c =
    let fx : SFits w16 (get_or c.args.cells.now c.loop-cell.cell-index (pos 0)) = search rules in
    let v = simp to_z-of_z at c.halved-divisor.ensures.value in
    record {
      some = c.halved-divisor.ensures.some;
      few = c.halved-divisor.ensures.few;
      value = rw v (sym (at_drop_more (gcd_with c.loop-cell.divisor) c.args.cells.now c.loop-cell.cell-index (pos 0) c.loop-cell-test.true)
          ∙ c.loop-cell.invariant.value);
    }
