use Rattle.ta_links.proofs.Common.{◌≡◌, sym, subst, rules, ℤ, arith, int_div, to_z-of_z, SFits, w128, value_in, along_rows, MayBefore}
use Rattle.ta_links.proofs.ColumnSteps.{PutOver}
use Rattle.ta_links.proofs.MergeSteps.{chosen_kept, merges_same, rewritten_more}
use Rattle.ta_links.proofs.merging.write_merged.Goals as goal

pub returns-in_default-clause-values : goal.returns-in_default-clause-values
returns-in_default-clause-values c j b =
    let fd = c.ranges.divisor in
    let old = c.args.links.now in
    let inv = simp to_z-of_z at c.loop-place.invariant in
    let e = c.in_default.ensures in
    let was = inv.rest c.loop-place.place (omega arith) in
    let kept = chosen_kept old c.args.columns c.args.merge.row c.args.merge.at c.args.merge.p c.args.merge.q c.args.merge.column c.args.merge.turned
    c.args.divisor c.loop-place.place c.loop-place.cursors.at c.loop-place.cursors.chosen c.loop-place.links inv in
    absurd (e.refused (merges_same c.args.merge.p c.args.merge.q c.args.merge.column (value_in old.cells.items c.args.merge.at)
    (value_in old.cells.items c.args.merge.row) (value_in c.loop-place.links.cells.items c.args.merge.at)
    (value_in c.loop-place.links.cells.items c.args.merge.row) c.loop-place.place (sym was) (sym kept)
    (c.requires.within c.loop-place.place c.loop-place-test.true)))

pub loop-place-preserved : goal.loop-place-preserved
loop-place-preserved c =
    let fd = c.ranges.divisor in
    let fx : SFits w128 c.in-Some.cell = search rules in
    let fv : SFits w128 c.quotient.result = search rules in
    let old = c.args.links.now in
    let now = c.loop-place.links in
    let inv = simp to_z-of_z at c.loop-place.invariant in
    let e = c.in-Some.ensures in
    let v : c.quotient.result ≡ int_div c.in-Some.cell c.args.divisor = simp to_z-of_z at c.quotient.ensures.value in
    let o = simp to_z-of_z at c.in_ok-left.ensures in
    let put_ : PutOver now c.args.merge.at c.loop-place.place c.quotient.result c.in_ok-left.left c.put.new.links = record
    { sound = o.sound; rows = o.rows; columns = o.columns; values = o.values; before = o.before; fresh = o.fresh; held = o.held } in
    let over = subst (λ (z : ℤ). PutOver now c.args.merge.at c.loop-place.place z c.in_ok-left.left c.put.new.links) v put_ in
    let front : MayBefore along_rows c.put.new.links.cells.items c.args.merge.row c.loop-place.place c.moved-cursors.result.chosen = λ h e. o.kept
    c.args.merge.row h (c.moved-cursors.ensures.chosen.may h e) in
    simp to_z-of_z (rewritten_more old c.args.columns c.args.merge.row c.args.merge.at c.args.merge.p c.args.merge.q c.args.merge.column c.args.merge.turned
    c.args.divisor c.loop-place.place c.loop-place.cursors.at c.loop-place.cursors.chosen now c.in-Some.cell c.in_ok-left.left c.moved-cursors.result.chosen
    c.put.new.links inv c.loop-place-test.true e.value over front)

pub put-requires-clause-start : goal.put-requires-clause-start
put-requires-clause-start c = c.moved-cursors.ensures.at.may
