use Rattle.ta_walk.proofs.Common.{◌≡◌, ◌-◌, option_copied, find, range_with_len, is_order_open}
use Rattle.ta_walk.specs.Values.{values_of}
use Rattle.ta_moment_tree.specs.Moments.{moments_of}
use Rattle.ta_walk.proofs.orders.order_before.Given as goal

abbrev pub invariant-loop-x : goal.invariant-loop-x
invariant-loop-x l =
    find (is_order_open l.moving l.facts (values_of (option_copied l.vertex)) (moments_of l.moments) l.y) (range_with_len 0 l.y)
    ≡ find (is_order_open l.moving l.facts (values_of (option_copied l.vertex)) (moments_of l.moments) l.y) (range_with_len l.x (l.y - l.x))
