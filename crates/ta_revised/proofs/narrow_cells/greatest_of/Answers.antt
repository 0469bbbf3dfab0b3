use Rattle.ta_revised.proofs.Common.{◌≤◌, ℤ, pos, get_or_default, unsigned_abs, arith, subst, sym}
use Rattle.ta_revised.proofs.narrow_cells.greatest_of.Goals as goal

pub returns : goal.returns
returns c =
    let inv = c.loop-cell.invariant in
    record {
      above = inv.above;
      bound = λ k d h.
          let e = get_or_default c.args.cells.now k d (pos 0) h in
          subst (λ (z : ℤ). unsigned_abs z ≤ c.loop-cell.greatest) (sym e) (inv.bound k (omega arith));
      below = inv.below;
      least = inv.least;
    }
