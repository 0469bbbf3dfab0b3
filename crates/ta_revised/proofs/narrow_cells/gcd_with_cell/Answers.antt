use Rattle.ta_revised.proofs.Common.{ap, ◌∙◌, sym, unsigned_abs, to_z-of_z, to_z, w16, gcd_of-zero, gcd_of}
use Rattle.ta_revised.proofs.narrow_cells.gcd_with_cell.Goals as goal

pub returns-then-cell-eq0 : goal.returns-then-cell-eq0
returns-then-cell-eq0 c =
    let zero = sym (to_z-of_z w16 c.args.cell c.ranges.cell) ∙ ap (to_z w16) c.if-cell-eq0.true in
    sym (gcd_of-zero c.args.divisor (unsigned_abs c.args.cell) (ap unsigned_abs zero))

pub returns-else-cell-eq0 : goal.returns-else-cell-eq0
returns-else-cell-eq0 c =
    let fx = c.ranges.cell in
    let u = simp to_z-of_z at c.unsigned_abs.ensures.value in
    c.gcd_with_size.ensures ∙ ap (gcd_of c.args.divisor) u
