use Rattle.ta_revised.proofs.Common.{◌∙◌, ap, sym, subst, arith, ℕ, ℤ, pos, ◌*ℤ◌, get_or, map, length-map, rules, to_z-of_z, to_z, SFits, w16, done_more}
use Rattle.ta_revised.proofs.Common.{rest_more, ext_get_or}
use Rattle.ta_revised.proofs.RowCellFacts.{times_one, times_cell}
use Rattle.ta_revised.proofs.narrow_cells.scale_narrow.Goals as goal

pub overflow_mul-cells : goal.overflow_mul-cells
overflow_mul-cells c =
    let fp = c.ranges.p in
    let f : SFits w16 (get_or c.loop-j.cells c.loop-j.j (pos 0)) = search rules in
    let e = c.loop-j.invariant.rest c.loop-j.j (omega arith) in
    simp to_z-of_z (subst (λ (x : ℤ). SFits w16 (c.args.p *ℤ x)) (sym e) (c.requires c.loop-j.j c.loop-j-test.true))

pub loop-j-preserved : goal.loop-j-preserved
loop-j-preserved c =
    let fp = c.ranges.p in
    let x = get_or c.loop-j.cells c.loop-j.j (pos 0) in
    let f : SFits w16 (get_or c.loop-j.cells c.loop-j.j (pos 0)) = search rules in
    let e = c.loop-j.invariant.rest c.loop-j.j (omega arith) in
    let g : SFits w16 (c.args.p *ℤ get_or c.loop-j.cells c.loop-j.j (pos 0)) =
    subst (λ (x : ℤ). SFits w16 (c.args.p *ℤ x)) (sym e) (c.requires c.loop-j.j c.loop-j-test.true) in
    let inv = simp to_z-of_z at c.loop-j.invariant in
    simp to_z-of_z record {
      done = done_more (λ (k : ℕ). c.args.p *ℤ get_or c.args.cells.now k (pos 0)) (pos 0) c.loop-j.cells c.loop-j.j (c.args.p *ℤ x) (omega arith)
          (ap (λ (y : ℤ). c.args.p *ℤ y) e) inv.done;
      rest = rest_more (pos 0) c.args.cells.now c.loop-j.cells c.loop-j.j (c.args.p *ℤ x) inv.rest;
    }

pub returns-else-p-ne1 : goal.returns-else-p-ne1
returns-else-p-ne1 c =
    let fp = c.ranges.p in
    let one = sym (to_z-of_z w16 c.args.p fp) ∙ ap (to_z w16) c.if-p-ne1.false in
    times_one c.args.p c.args.cells.now one

pub returns-after-loop-j : goal.returns-after-loop-j
returns-after-loop-j c =
    let fp = c.ranges.p in
    let inv = simp to_z-of_z at c.loop-j.invariant in
    let long = length-map c.args.cells.now (λ (z : ℤ). c.args.p *ℤ z) in
    ext_get_or (pos 0) c.loop-j.cells (map (λ (z : ℤ). c.args.p *ℤ z) c.args.cells.now) (omega arith)
    (λ k h. inv.done k (omega arith) ∙ sym (times_cell c.args.p c.args.cells.now k))
