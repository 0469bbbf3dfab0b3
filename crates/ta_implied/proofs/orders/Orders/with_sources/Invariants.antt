use Rattle.ta_implied.proofs.Gathering.{Gathered}
use Rattle.ta_implied.proofs.orders.Orders.with_sources.Given as goal

-- the guards with all that come before one of those so far
abbrev pub invariant-loop-guard : goal.invariant-loop-guard
invariant-loop-guard l = Gathered l.self l.found l.all l.guard
