use Rattle.ta_dense.proofs.Common.{pos, length, get_or, refl, rules, to_z-of_z, SFits, w128}
use Rattle.ta_dense.proofs.FillSteps.{fill-start, fill-inside, fill-more, fill-end}
use Rattle.ta_dense.proofs.dense.fill_cells.Goals as goal

pub loop-unknown-init : goal.loop-unknown-init
loop-unknown-init c = fill-start (length c.args.cells.now) c.args.terms.now c.args.cells.now c.requires.terms refl c.requires.cells

pub bounds-cells-unknown : goal.bounds-cells-unknown
bounds-cells-unknown c = fill-inside (length c.args.cells.now) c.args.terms.now c.args.terms.now c.loop-unknown.unknown-index (0, pos 0) c.loop-unknown.cells
    c.loop-unknown.invariant c.loop-unknown-test.true

pub loop-unknown-preserved : goal.loop-unknown-preserved
loop-unknown-preserved c =
    let f : SFits w128 (get_or c.args.terms.now c.loop-unknown.unknown-index (0, pos 0)).1 = search rules in
    simp to_z-of_z (fill-more (length c.args.cells.now) c.args.terms.now c.args.terms.now c.loop-unknown.unknown-index (0, pos 0) c.loop-unknown.cells
    c.loop-unknown.invariant c.loop-unknown-test.true)

pub returns : goal.returns
returns c = record {
  value = fill-end (length c.args.cells.now) c.args.terms.now c.loop-unknown.unknown-index c.loop-unknown.cells c.loop-unknown.invariant
      c.loop-unknown-test.false;
}
