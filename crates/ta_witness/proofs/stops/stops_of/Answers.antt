use Rattle.ta_witness.proofs.Common.{shape}
use Rattle.ta_moments.proofs.Common.{ap, map}
use Rattle.ta_witness.proofs.Placing.{none_placed, one_placed}
use Rattle.ta_witness.proofs.stops.stops_of.Goals as goal

pub loop-left-init : goal.loop-left-init
loop-left-init c = none_placed c.args.automaton.now c.args.pattern.now c.args.values.now c.args.moments.now (map shape c.new-stops.result.items)
    (ap (map shape) c.new-stops.ensures.items)

pub loop-left-preserved : goal.loop-left-preserved
loop-left-preserved c =
    one_placed c.args.automaton.now c.args.pattern.now c.args.values.now c.args.moments.now c.loop-left.left c.index-moments-left.result
    (map shape c.loop-left.stops.items) (map shape c.add_moment.new.stops.items)
    c.loop-left-test.true c.loop-left.invariant c.index-moments-left.is c.in_ok-add_moment.ensures.added c.in_ok-add_moment.ensures.stays
