use Rattle.ta_counter.proofs.Common.{rules, pos, get_or, FitsSigned, to_z-of_z, w128}
use Rattle.ta_counter.proofs.Adding.{add_next, add_leaves, add_end}
use Rattle.ta_counter.proofs.start.sum.Goals as goal

pub returns-in_default : goal.returns-in_default
returns-in_default c =
    let fits : FitsSigned w128 (get_or c.args.counts.now c.loop-count.count-index (pos 0)) = search rules in
    add_leaves _ _ _ c.loop-count.invariant c.loop-count-test.true (simp to_z-of_z at c.in_default.ensures)

pub loop-count-preserved : goal.loop-count-preserved
loop-count-preserved c =
    let fits : FitsSigned w128 (get_or c.args.counts.now c.loop-count.count-index (pos 0)) = search rules in
    let next : FitsSigned w128 c.in-Some.next = search rules in
    let told = simp to_z-of_z at c.in-Some.ensures in
    simp to_z-of_z (add_next _ _ _ _ c.loop-count.invariant c.loop-count-test.true told.0 told.1)

pub returns : goal.returns
returns c = add_end _ _ _ c.loop-count.invariant c.loop-count-test.false
