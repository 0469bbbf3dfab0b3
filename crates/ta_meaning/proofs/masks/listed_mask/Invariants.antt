use Rattle.ta_meaning.proofs.Common.{drop, slice_range}
use Rattle.ta_meaning.proofs.ListedSteps.{ListedTo}
use Rattle.ta_meaning.proofs.masks.listed_mask.Given as goal

-- the names before are listed, and the rest is left
abbrev pub invariant-loop-name : goal.invariant-loop-name
invariant-loop-name l = ListedTo l.names (slice_range l.names l.from l.to) l.listed (drop l.name-index l.listed) l.mask
