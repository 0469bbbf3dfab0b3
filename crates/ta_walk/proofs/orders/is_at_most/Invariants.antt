use Rattle.ta_walk.proofs.Common.{◌≡◌, drop, option_copied, is_at_most, vector_of}
use Rattle.ta_walk.specs.Values.{values_of}
use Rattle.ta_walk.proofs.orders.is_at_most.Given as goal

abbrev pub invariant-loop-rule : goal.invariant-loop-rule
invariant-loop-rule l =
    is_at_most l.moving (values_of (option_copied l.vertex)) (vector_of l.one) (vector_of l.other)
    ≡ is_at_most (drop l.rule-index l.moving) (values_of (option_copied l.vertex)) (vector_of l.one) (vector_of l.other)
