use Rattle.ta_revised.proofs.Common.{refl, rules, int_div, to_z-of_z, quot_fits, SFits, w16, pos_abs, row_same}
use Rattle.ta_revised.proofs.narrow_rows.divide_narrow_row.Goals as goal

pub returns-clause-value : goal.returns-clause-value
returns-clause-value c =
    let fd = c.ranges.divisor in
    let f1 : SFits w16 c.args.row.now.denominator = search rules in
    let f2 : SFits w16 c.args.row.now.constant = search rules in
    let g1 : SFits w16 (int_div c.args.row.now.denominator c.args.divisor) = quot_fits w16 _ _ f1 c.requires in
    let g2 : SFits w16 (int_div c.args.row.now.constant c.args.divisor) = quot_fits w16 _ _ f2 c.requires in
    let e = simp to_z-of_z at c.in_ok-divide.ensures in
    simp to_z-of_z
    (rw (pos_abs c.args.divisor c.requires) (row_same c.args.row.now.basic _ _ _ _ _ _ refl refl e))
