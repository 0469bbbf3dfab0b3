use Rattle.ta_walk.proofs.OrdersOnce.{orders_once}
use Rattle.ta_walk.proofs.orders_laws.found_orders_are_determined.Goals as goal

pub returns : goal.returns
returns c = orders_once
