use Rattle.std.proofs.Common.{◌≡◌, length}
use Rattle.ta_scope.proofs.Reaching.{LeadsSoFar}
use Rattle.ta_scope.proofs.reach.leads.Given as goal

-- the table of the first locations
abbrev pub invariant-loop-location : goal.invariant-loop-location
invariant-loop-location l = (length l.table.items ≡ l.location) × LeadsSoFar l.automaton l.rules l.table.items
