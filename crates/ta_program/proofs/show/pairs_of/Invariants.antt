use Rattle.ta_program.proofs.Common.{◌≡◌, ◌++◌, map, pair_of}
use Rattle.std.proofs.Common.{drop}
use Rattle.ta_program.proofs.show.pairs_of.Given as goal

-- the pairs so far, and those of the orders that are left
abbrev pub invariant-loop-order : goal.invariant-loop-order
invariant-loop-order l = l.pairs.items ++ map pair_of (drop l.order-index l.orders) ≡ map pair_of l.orders
