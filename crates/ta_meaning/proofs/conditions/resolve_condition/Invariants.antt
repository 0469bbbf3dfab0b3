use Rattle.ta_meaning.proofs.Common.{drop, first_places}
use Rattle.ta_meaning.proofs.ComparedForms.{Resolving}
use Rattle.ta_meaning.proofs.conditions.resolve_condition.Given as goal

abbrev pub invariant-comparisons : goal.invariant-comparisons
invariant-comparisons l = Resolving (first_places l.places.names l.allowed) l.comparisons (drop l.comparison-index l.comparisons) l.resolved.items
