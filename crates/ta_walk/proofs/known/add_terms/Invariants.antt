use Rattle.ta_walk.proofs.Common.{◌+◌, length}
use Rattle.ta_walk.proofs.MergedTerms.{Adding, difference}
use Rattle.ta_walk.proofs.known.add_terms.Given as goal

abbrev pub invariant-terms : goal.invariant-terms
invariant-terms l = Adding (difference l.above l.beneath) l.numbers l.start l.left l.right l.sum

abbrev pub decreases-terms : goal.decreases-terms
decreases-terms l = length l.left + length l.right
