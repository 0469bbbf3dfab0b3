use Rattle.ta_rest.proofs.Common.{length}
use Rattle.ta_rest.proofs.EndingShapes.{EndingsSoFar}
use Rattle.ta_rest.proofs.endings.endings_of.Given as goal

abbrev pub invariant-patterns : goal.invariant-patterns
invariant-patterns l = EndingsSoFar l.fn.patterns.items l.rest.items l.endings.items

abbrev pub decreases-patterns : goal.decreases-patterns
decreases-patterns l = length l.rest.items
