use Rattle.ta_revised.proofs.Common.{length, rules, pos, get_or, to_z-of_z, narrow_view, SFits}
use Rattle.ta_revised.proofs.SlackFacts.{add-inside, add-row, add-more}
use mir.Syntax.{w128}
use Rattle.ta_revised.proofs.slack.add_terms.Goals as goal

pub bounds-rows-unknown : goal.bounds-rows-unknown
bounds-rows-unknown c =
    add-inside (length c.args.sum.now.cells) c.args.scale c.args.rows.now (narrow_view c.args.sum.now) c.args.terms.now c.args.terms.now
    c.loop-unknown.unknown-index (0, pos 0) c.loop-unknown.sum c.loop-unknown.invariant c.loop-unknown-test.true

pub add_term-requires-clause-row : goal.add_term-requires-clause-row
add_term-requires-clause-row c =
    add-row (length c.args.sum.now.cells) c.args.scale c.args.rows.now (narrow_view c.args.sum.now) c.args.terms.now c.args.terms.now
    c.loop-unknown.unknown-index (0, pos 0) _ c.index-rows-unknown.result c.loop-unknown.sum c.requires.rows c.loop-unknown.invariant c.loop-unknown-test.true
    c.index-rows-unknown.is

pub loop-unknown-preserved : goal.loop-unknown-preserved
loop-unknown-preserved c =
    let f : SFits w128 (get_or c.args.terms.now c.loop-unknown.unknown-index (0, pos 0)).1 = search rules in
    let value = simp to_z-of_z at (rw c.if-not-branch.false at c.in_ok-add_term.ensures.value) in
    let narrow = rw c.if-not-branch.false at c.in_ok-add_term.ensures.narrow in
    add-more (length c.args.sum.now.cells) c.args.scale c.args.rows.now (narrow_view c.args.sum.now) c.args.terms.now c.args.terms.now
    c.loop-unknown.unknown-index (0, pos 0) _ c.index-rows-unknown.result c.loop-unknown.sum c.add_term.new.sum c.loop-unknown.invariant
    c.loop-unknown-test.true c.index-rows-unknown.is value narrow
