use Rattle.ta_farkas.proofs.Common.{◌+◌, rules, get_or, pos, Some, None, to_z-of_z, SFits, w128}
use Rattle.std.proofs.lemmas.List.{get_or-replicate}
use Rattle.ta_farkas.proofs.Sums.{summed-start, summed-next, summed-end}
use Rattle.ta_farkas.proofs.block_sums.Goals as goal

pub loop-row-init : goal.loop-row-init
loop-row-init c = λ j b h. rw (get_or-replicate 64 j (Some (pos 0)) None b) (summed-start c.args.system.now c.args.multipliers.now (c.args.first + j))

pub loop-row-preserved : goal.loop-row-preserved
loop-row-preserved c =
    let s = c.args.system.now in
    let ts = c.args.multipliers.now in
    let i = c.loop-row.row-index in
    let fm : SFits w128 (get_or ts i (0, pos 0)).1 = search rules in
    let told = simp to_z-of_z at c.add_terms.ensures in
    λ j b h.
    summed-next s ts (c.args.first + j) i (get_or c.loop-row.sums j None) (get_or c.add_terms.new.sums j None) c.loop-row-test.true (c.loop-row.invariant j b h)
    (rw (← c.terms_at.ensures.entries (c.args.first + j) h) (told j b))

pub returns : goal.returns
returns c =
    let s = c.args.system.now in
    let ts = c.args.multipliers.now in
    λ j b h. summed-end s ts (c.args.first + j) c.loop-row.row-index (get_or c.loop-row.sums j None) c.loop-row-test.false (c.loop-row.invariant j b h)
