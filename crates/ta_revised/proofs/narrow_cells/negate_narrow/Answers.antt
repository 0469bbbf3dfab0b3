use Rattle.ta_revised.proofs.Common.{ℕ, arith, sym, ◌∙◌, ap, pos, neg_ℤ, ◌-ℤ◌, get_or, map, rules, subst, to_z-of_z, SFits, w16, zero_minus, done_more}
use Rattle.ta_revised.proofs.Common.{ext_get_or, get_or-neg, length-map, rest_more, minus_fits}
use Rattle.ta_revised.proofs.Bounded.{IsSmall}
use Rattle.ta_revised.proofs.narrow_cells.negate_narrow.Goals as goal

pub loop-j-preserved : goal.loop-j-preserved
loop-j-preserved c =
    let x = get_or c.loop-j.cells c.loop-j.j (pos 0) in
    let inv = c.loop-j.invariant in
    let range = subst IsSmall (sym (inv.rest c.loop-j.j (omega arith))) (c.requires c.loop-j.j (pos 0) c.loop-j-test.true) in
    let f1 : SFits w16 (get_or c.loop-j.cells c.loop-j.j (pos 0)) = search rules in
    let f2 : SFits w16 (pos 0 -ℤ get_or c.loop-j.cells c.loop-j.j (pos 0)) = minus_fits w16 x range in
    simp to_z-of_z record {
      done = done_more (λ (k : ℕ). get_or (map neg_ℤ c.args.cells.now) k (pos 0)) (pos 0) c.loop-j.cells c.loop-j.j (pos 0 -ℤ x) (omega arith)
          (zero_minus x ∙ ap neg_ℤ (inv.rest c.loop-j.j (omega arith)) ∙ sym (get_or-neg c.args.cells.now c.loop-j.j)) inv.done;
      rest = rest_more (pos 0) c.args.cells.now c.loop-j.cells c.loop-j.j (pos 0 -ℤ x) inv.rest;
    }

pub returns : goal.returns
returns c = ext_get_or (pos 0) c.loop-j.cells (map neg_ℤ c.args.cells.now) (omega (arith, length-map c.args.cells.now neg_ℤ))
    (λ i h. c.loop-j.invariant.done i (omega arith))
