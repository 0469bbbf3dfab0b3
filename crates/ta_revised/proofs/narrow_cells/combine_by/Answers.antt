use Rattle.ta_revised.proofs.Common.{ℕ, arith, sym, ◌∙◌, ap, subst, pos, ◌-ℤ◌, ◌*ℤ◌, ℤ, get_or, rules, to_z-of_z, ext_get_or, SFits, w16, done_more, rest_more}
use Rattle.ta_revised.proofs.Common.{combine, CombinesIn16, get_or-combine, length-combine}
use Rattle.ta_revised.proofs.narrow_cells.combine_by.Goals as goal

pub overflow_mul-cells : goal.overflow_mul-cells
overflow_mul-cells c =
    let fp = c.ranges.p in
    let fq = c.ranges.q in
    let fx : SFits w16 (get_or c.loop-j.cells c.loop-j.j (pos 0)) = search rules in
    let e = c.loop-j.invariant.rest c.loop-j.j (omega arith) in
    let fit0 = c.requires.fit c.loop-j.j c.loop-j-test.true in
    let fit = subst (λ (z : ℤ). CombinesIn16 c.args.p z c.args.q (get_or c.args.chosen.now c.loop-j.j (pos 0))) (sym e) fit0 in
    simp to_z-of_z fit.left

pub overflow_sub-cells : goal.overflow_sub-cells
overflow_sub-cells c =
    let fp = c.ranges.p in
    let fq = c.ranges.q in
    let fx : SFits w16 (get_or c.loop-j.cells c.loop-j.j (pos 0)) = search rules in
    let fc : SFits w16 (get_or c.args.chosen.now c.loop-j.j (pos 0)) = search rules in
    let e = c.loop-j.invariant.rest c.loop-j.j (omega arith) in
    let fit0 = c.requires.fit c.loop-j.j c.loop-j-test.true in
    let fit = subst (λ (z : ℤ). CombinesIn16 c.args.p z c.args.q (get_or c.args.chosen.now c.loop-j.j (pos 0))) (sym e) fit0 in
    let fl = fit.left in
    let fr = fit.right in
    simp to_z-of_z fit.difference

pub loop-j-preserved : goal.loop-j-preserved
loop-j-preserved c =
    let fp = c.ranges.p in
    let fq = c.ranges.q in
    let fx : SFits w16 (get_or c.loop-j.cells c.loop-j.j (pos 0)) = search rules in
    let fc : SFits w16 (get_or c.args.chosen.now c.loop-j.j (pos 0)) = search rules in
    let inv = simp to_z-of_z at c.loop-j.invariant in
    let e = inv.rest c.loop-j.j (omega arith) in
    let fit0 = c.requires.fit c.loop-j.j c.loop-j-test.true in
    let fit = subst (λ (z : ℤ). CombinesIn16 c.args.p z c.args.q (get_or c.args.chosen.now c.loop-j.j (pos 0))) (sym e) fit0 in
    let fl = fit.left in
    let fr = fit.right in
    let fd = fit.difference in
    let x = c.args.p *ℤ get_or c.loop-j.cells c.loop-j.j (pos 0) -ℤ c.args.q *ℤ get_or c.args.chosen.now c.loop-j.j (pos 0) in
    let is = ap (λ (z : ℤ). c.args.p *ℤ z -ℤ c.args.q *ℤ get_or c.args.chosen.now c.loop-j.j (pos 0)) e
    ∙ sym (get_or-combine c.args.p c.args.q c.args.cells.now c.args.chosen.now c.loop-j.j c.requires.long) in
    simp to_z-of_z record {
      done = done_more (λ (k : ℕ). get_or (combine c.args.p c.args.q c.args.cells.now c.args.chosen.now) k (pos 0)) (pos 0) c.loop-j.cells c.loop-j.j x
          (omega arith) is inv.done;
      rest = rest_more (pos 0) c.args.cells.now c.loop-j.cells c.loop-j.j x inv.rest;
    }

pub returns : goal.returns
returns c =
    let fp = c.ranges.p in
    let fq = c.ranges.q in
    let inv = simp to_z-of_z at c.loop-j.invariant in
    let long = length-combine c.args.p c.args.q c.args.cells.now c.args.chosen.now c.requires.long in
    ext_get_or (pos 0) c.loop-j.cells (combine c.args.p c.args.q c.args.cells.now c.args.chosen.now) (omega arith) (λ i h. inv.done i (omega arith))
