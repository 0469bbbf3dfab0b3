use Rattle.ta_walk.proofs.Common.{◌≡◌, ◌-◌, length, option_copied, range_with_len, first_order, order_to_ask}
use Rattle.ta_walk.specs.Values.{values_of}
use Rattle.ta_moment_tree.specs.Moments.{moments_of}
use Rattle.ta_walk.proofs.orders.order_to_ask.Given as goal

abbrev pub invariant-loop-y : goal.invariant-loop-y
invariant-loop-y l =
    order_to_ask l.moving l.facts (values_of (option_copied l.vertex)) (moments_of l.moments)
    ≡ first_order l.moving l.facts (values_of (option_copied l.vertex)) (moments_of l.moments) (range_with_len l.y (length l.moments - l.y))
