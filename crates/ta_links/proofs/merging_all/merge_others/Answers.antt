use Rattle.std.proofs.Common.{pos, length, get_or, ◌<◌, arith, rules}
use Rattle.ta_links.proofs.AllMerging.{refused_here, next_met, met_more, met_all}
use Rattle.ta_links.proofs.merging_all.merge_others.Goals as goal

pub merge_one-requires : goal.merge_one-requires
merge_one-requires c =
    let next = next_met c.args.first c.args.columns c.args.row c.args.column c.args.heads.now.items c.args.links.now c.args.met.now c.loop-at.at-index
    (0, pos 0) c.loop-at.heads.items c.loop-at.links c.requires.column c.loop-at.invariant c.loop-at-test.true in
    let at : (get_or c.args.met.now c.loop-at.at-index (0, pos 0)).0 < length c.loop-at.heads.items = omega arith in
    search rules

pub returns-then-not-branch-clause-refused : goal.returns-then-not-branch-clause-refused
returns-then-not-branch-clause-refused c =
    let hs = c.args.heads.now.items in
    let next = next_met c.args.first c.args.columns c.args.row c.args.column c.args.heads.now.items c.args.links.now c.args.met.now c.loop-at.at-index
    (0, pos 0) c.loop-at.heads.items c.loop-at.links c.requires.column c.loop-at.invariant c.loop-at-test.true in
    refused_here c.args.first c.args.columns c.args.row c.args.column hs c.args.links.now (get_or c.args.met.now c.loop-at.at-index (0, pos 0)).0 (length hs)
    c.loop-at.heads.items c.loop-at.links next.inside next.below (c.in_ok-merge_one.ensures.refused c.if-not-branch.true)

pub loop-at-preserved : goal.loop-at-preserved
loop-at-preserved c =
    let next = next_met c.args.first c.args.columns c.args.row c.args.column c.args.heads.now.items c.args.links.now c.args.met.now c.loop-at.at-index
    (0, pos 0) c.loop-at.heads.items c.loop-at.links c.requires.column c.loop-at.invariant c.loop-at-test.true in
    met_more c.args.first c.args.columns c.args.row c.args.column c.args.heads.now.items c.args.links.now c.args.met.now c.loop-at.at-index
    (get_or c.args.met.now c.loop-at.at-index (0, pos 0)).0 c.loop-at.heads.items c.loop-at.links c.merge_one.new.heads.items c.merge_one.new.links next
    (c.in_ok-merge_one.ensures.done c.if-not-branch.false)

pub returns-clause-done : goal.returns-clause-done
returns-clause-done c = met_all c.args.first c.args.columns c.args.row c.args.column c.args.heads.now.items c.args.links.now c.args.met.now c.loop-at.at-index
    c.loop-at.heads.items c.loop-at.links c.requires.column c.loop-at.invariant (omega arith)
