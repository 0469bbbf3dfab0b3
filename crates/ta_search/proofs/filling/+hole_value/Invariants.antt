use Rattle.std.proofs.Common.{length}
use Rattle.ta_search.proofs.filling.+hole_value.Given as goal

abbrev pub decreases-hole_value : goal.decreases-hole_value
decreases-hole_value l = length l.holes.now
