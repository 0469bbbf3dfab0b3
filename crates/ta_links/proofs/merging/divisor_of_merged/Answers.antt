use Rattle.ta_links.proofs.Common.{◌∙◌, ap, rules, below_more, arith, to_z-of_z, SFits, w128, gcd_of, gcd_of_is, value_in, merged_cell}
use Rattle.ta_links.proofs.MergeSteps.{gcd_more, may_before_next}
use Rattle.ta_links.proofs.merging.divisor_of_merged.Goals as goal

pub returns-in_default-clause-refused : goal.returns-in_default-clause-refused
returns-in_default-clause-refused c =
    let e = c.in_default.ensures in
    record { place = c.loop-place.place; inside = c.loop-place-test.true; refused = e.refused }

pub loop-place-preserved : goal.loop-place-preserved
loop-place-preserved c =
    let fx : SFits w128 c.in-Some.cell = search rules in
    let inv = c.loop-place.invariant in
    let e = c.in-Some.ensures in
    let u = simp to_z-of_z at c.unsigned_abs.ensures.value in
    let v = gcd_of_is _ _ _ c.gcd_natural-divisor.ensures.value ∙ ap (gcd_of c.loop-place.divisor) u in
    record {
      value = gcd_more c.args.first (merged_cell c.args.merge.p c.args.merge.q c.args.merge.column c.args.merge.turned
          (value_in c.args.links.now.cells.items c.args.merge.at) (value_in c.args.links.now.cells.items c.args.merge.row)) c.loop-place.place
          c.loop-place.divisor c.in-Some.cell c.gcd_natural-divisor.result inv.value e.value v;
      before_at = may_before_next c.args.links.now.cells.items c.args.merge.at c.loop-place.place c.moved-cursors.result.at c.moved-cursors.ensures.at.may;
      before_chosen = may_before_next c.args.links.now.cells.items c.args.merge.row c.loop-place.place c.moved-cursors.result.chosen
          c.moved-cursors.ensures.chosen.may;
      bound = c.gcd_natural-divisor.ensures.fits;
      within = below_more _ _ inv.within e.within;
    }

pub returns-clause-within : goal.returns-clause-within
returns-clause-within c =
    let inv = c.loop-place.invariant in
    λ j b. inv.within j (omega arith)
