use Rattle.ta_revised.proofs.Common.{◌≡◌, arith, refl, ap, ◌∙◌, rules, length, set, List, ℤ, ◌*ℤ◌, to_z-of_z, SFits, w16, row_same, length-combine}
use Rattle.ta_revised.proofs.Bounded.{combine_in16, cells_in16}
use Rattle.ta_revised.proofs.narrow_rows.merge_narrow_by.Goals as goal

pub overflow_mul-turned : goal.overflow_mul-turned
overflow_mul-turned c =
    let fq = c.ranges.q in
    let f3 : SFits w16 c.args.chosen.now.denominator = search rules in
    let d = combine_in16 c.args.p c.args.row.now.denominator c.args.q c.args.chosen.now.denominator c.args.row.now.bound c.args.chosen.now.bound
    c.requires.row.denominator c.requires.chosen.denominator c.requires.within in
    simp to_z-of_z d.right

pub overflow_mul-row : goal.overflow_mul-row
overflow_mul-row c =
    let fp = c.ranges.p in
    let f1 : SFits w16 c.args.row.now.denominator = search rules in
    let d = combine_in16 c.args.p c.args.row.now.denominator c.args.q c.args.chosen.now.denominator c.args.row.now.bound c.args.chosen.now.bound
    c.requires.row.denominator c.requires.chosen.denominator c.requires.within in
    simp to_z-of_z d.left

pub overflow_mul-row-2 : goal.overflow_mul-row-2
overflow_mul-row-2 c =
    let fp = c.ranges.p in
    let f2 : SFits w16 c.args.row.now.constant = search rules in
    let k = combine_in16 c.args.p c.args.row.now.constant c.args.q c.args.chosen.now.constant c.args.row.now.bound c.args.chosen.now.bound
    c.requires.row.constant c.requires.chosen.constant c.requires.within in
    simp to_z-of_z k.left

pub overflow_mul-row-3 : goal.overflow_mul-row-3
overflow_mul-row-3 c =
    let fq = c.ranges.q in
    let f4 : SFits w16 c.args.chosen.now.constant = search rules in
    let k = combine_in16 c.args.p c.args.row.now.constant c.args.q c.args.chosen.now.constant c.args.row.now.bound c.args.chosen.now.bound
    c.requires.row.constant c.requires.chosen.constant c.requires.within in
    simp to_z-of_z k.right

pub overflow_sub-row : goal.overflow_sub-row
overflow_sub-row c =
    let fp = c.ranges.p in
    let fq = c.ranges.q in
    let f2 : SFits w16 c.args.row.now.constant = search rules in
    let f4 : SFits w16 c.args.chosen.now.constant = search rules in
    let k = combine_in16 c.args.p c.args.row.now.constant c.args.q c.args.chosen.now.constant c.args.row.now.bound c.args.chosen.now.bound
    c.requires.row.constant c.requires.chosen.constant c.requires.within in
    let kl = k.left in
    let kr = k.right in
    simp to_z-of_z k.difference

pub combine-requires-clause-fit : goal.combine-requires-clause-fit
combine-requires-clause-fit c =
    let fp = c.ranges.p in
    let fq = c.ranges.q in
    simp to_z-of_z (cells_in16 c.args.p c.args.q c.args.row.now.bound c.args.chosen.now.bound c.args.row.now.cells c.args.chosen.now.cells c.requires.long
    c.requires.row.cells c.requires.chosen.cells c.requires.within)

pub returns-clause-value : goal.returns-clause-value
returns-clause-value c =
    let fp = c.ranges.p in
    let fq = c.ranges.q in
    let f1 : SFits w16 c.args.row.now.denominator = search rules in
    let f2 : SFits w16 c.args.row.now.constant = search rules in
    let f3 : SFits w16 c.args.chosen.now.denominator = search rules in
    let f4 : SFits w16 c.args.chosen.now.constant = search rules in
    let d = combine_in16 c.args.p c.args.row.now.denominator c.args.q c.args.chosen.now.denominator c.args.row.now.bound c.args.chosen.now.bound
    c.requires.row.denominator c.requires.chosen.denominator c.requires.within in
    let k = combine_in16 c.args.p c.args.row.now.constant c.args.q c.args.chosen.now.constant c.args.row.now.bound c.args.chosen.now.bound
    c.requires.row.constant c.requires.chosen.constant c.requires.within in
    let dl = d.left in
    let dr = d.right in
    let kl = k.left in
    let kr = k.right in
    let kd = k.difference in
    let e = simp to_z-of_z at c.in_ok-combine.ensures in
    let w = simp to_z-of_z at c.in_ok-write.ensures in
    simp to_z-of_z (row_same c.args.row.now.basic _ _ _ _ _ _ refl refl
    (w ∙ ap (λ (cs : List ℤ). set cs c.args.column (c.args.q *ℤ c.args.chosen.now.denominator)) e))

pub write-requires : goal.write-requires
write-requires c =
    let fp = c.ranges.p in
    let fq = c.ranges.q in
    let e = simp to_z-of_z at c.in_ok-combine.ensures in
    let l = length-combine c.args.p c.args.q c.args.row.now.cells c.args.chosen.now.cells c.requires.long in
    let wide : length c.combine.new.self ≡ length c.args.row.now.cells = ap length e ∙ l in
    let inside = c.requires.column in
    let long = c.requires.long in
    omega arith

pub returns-clause-bound : goal.returns-clause-bound
returns-clause-bound c =
    let fp = c.ranges.p in
    let fq = c.ranges.q in
    let u = simp to_z-of_z at c.unsigned_abs.ensures.value in
    let v = simp to_z-of_z at c.unsigned_abs-2.ensures.value in
    rw (u, v) refl
