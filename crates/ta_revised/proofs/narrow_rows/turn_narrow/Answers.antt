use Rattle.ta_revised.proofs.Common.{arith, ◌∙◌, ap, pos, ℤ, ◌-ℤ◌, rules, set, List, to_z-of_z, SFits, w16, zero_minus, row_same, minus_fits}
use Rattle.ta_revised.proofs.narrow_rows.turn_narrow.Goals as goal

pub returns-clause-value : goal.returns-clause-value
returns-clause-value c =
    let f0 : SFits w16 c.at-denominator.result = search rules in
    let f1 : SFits w16 c.args.row.now.denominator = search rules in
    let f2 : SFits w16 c.args.row.now.constant = search rules in
    let f3 : SFits w16 (pos 0 -ℤ c.args.row.now.constant) = minus_fits w16 c.args.row.now.constant
    (let b = c.requires.row.bounded.constant in let f = c.requires.row.fits in omega arith) in
    let w = simp to_z-of_z at c.in_ok-write.ensures in
    simp to_z-of_z (row_same c.args.entering _ _ _ _ _ _ c.at-denominator.ensures (zero_minus c.args.row.now.constant)
    (w ∙ ap (λ (cs : List ℤ). set cs c.args.column c.args.row.now.denominator) c.in_ok-negate.ensures))
