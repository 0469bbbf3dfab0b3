use Rattle.ta_walk.proofs.OrdersSound.{orders_sound}
use Rattle.ta_walk.proofs.orders_laws.found_orders_are_sound.Goals as goal

pub returns : goal.returns
returns c = orders_sound
