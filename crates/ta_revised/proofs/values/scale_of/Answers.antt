use Rattle.ta_revised.proofs.Common.{arith}
use Rattle.ta_revised.proofs.ScaleFacts.{all_divide, listed_divide}
use Rattle.ta_revised.proofs.values.scale_of.Goals as goal

pub loop-unknown-preserved : goal.loop-unknown-preserved
loop-unknown-preserved c =
    let next = c.in_ok-scale.ensures in
    let inside = c.requires.basic.inside c.loop-unknown.unknown-index 0 c.loop-unknown-test.true in
    record {
      positive = next.positive;
      few = next.few;
      multiple = listed_divide c.args.columns c.loop-unknown.scale c.in_ok-scale.scale c.args.rows.now c.args.basic.now c.loop-unknown.unknown-index
          c.index-rows-unknown.result _ inside c.index-rows-unknown.is next.first (rw c.denominator_of.ensures.value at next.second)
          c.loop-unknown.invariant.multiple;
    }

pub returns : goal.returns
returns c =
    let inv = c.loop-unknown.invariant in
    record {
      positive = inv.positive;
      few = inv.few;
      multiple = all_divide c.args.columns c.loop-unknown.scale c.args.rows.now c.args.basic.now c.loop-unknown.unknown-index (omega arith) c.requires.basic
          inv.multiple;
    }
