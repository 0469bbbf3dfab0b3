use Rattle.std.proofs.Common.{◌-◌}
use Rattle.ta_implied.proofs.Gathering.{Searched}
use Rattle.ta_implied.proofs.orders.Orders.sources.Given as goal

-- all that come right before the guard, and some from which a chain leads to it
abbrev pub invariant-loop-found : goal.invariant-loop-found
invariant-loop-found l = Searched l.self l.guard l.found

-- sets that grow are greater numbers
abbrev pub decreases-loop-found : goal.decreases-loop-found
decreases-loop-found l = 18446744073709551616 - l.found
