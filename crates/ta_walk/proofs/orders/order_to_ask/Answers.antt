use Rattle.ta_walk.proofs.Common.{sym, ◌∙◌, length, option_copied}
use Rattle.ta_walk.specs.Values.{values_of}
use Rattle.ta_moment_tree.specs.Moments.{moments_of}
use Rattle.ta_walk.proofs.Ordering.{order_next}
use Rattle.ta_walk.proofs.orders.order_to_ask.Goals as goal

pub loop-y-preserved : goal.loop-y-preserved
loop-y-preserved c = order_next c.args.moving.now c.args.facts.now (values_of (option_copied c.args.vertex)) (moments_of c.args.moments.now) c.loop-y.y
    (length c.args.moments.now) c.order_before-found.result _ c.loop-y-test.true c.order_before-found.ensures (sym c.is_some.ensures ∙ c.if-is_some.false)
    c.loop-y.invariant
