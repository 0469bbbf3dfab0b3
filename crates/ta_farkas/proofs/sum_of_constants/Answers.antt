use Rattle.ta_farkas.proofs.Common.{get_or, pos, to_z-of_z, rules, SFits, w128}
use Rattle.ta_farkas.proofs.Sums.{summed-next, summed-end}
use Rattle.ta_farkas.proofs.sum_of_constants.Goals as goal

pub loop-row-preserved : goal.loop-row-preserved
loop-row-preserved c =
    let s = c.args.system.now in
    let ts = c.args.multipliers.now in
    let fm : SFits w128 (get_or ts c.loop-row.row-index (0, pos 0)).1 = search rules in
    let fe : SFits w128 c.constant_at.result = search rules in
    let told = simp to_z-of_z at c.add-sum.ensures in
    let added = rw c.constant_at.ensures at told in
    summed-next s ts s.unknowns c.loop-row.row-index c.loop-row.sum c.add-sum.result c.loop-row-test.true c.loop-row.invariant added

pub returns : goal.returns
returns c =
    let s = c.args.system.now in
    summed-end s c.args.multipliers.now s.unknowns c.loop-row.row-index c.loop-row.sum c.loop-row-test.false c.loop-row.invariant
