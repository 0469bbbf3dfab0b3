use Rattle.ta_walk.proofs.Ordering.{find_next}
use Rattle.ta_walk.proofs.orders.order_before.Goals as goal

pub loop-x-preserved : goal.loop-x-preserved
loop-x-preserved c = find_next _ c.loop-x.x c.args.y c.is_order_open.result _ c.loop-x-test.true c.is_order_open.ensures c.if-is_order_open.false
    c.loop-x.invariant
