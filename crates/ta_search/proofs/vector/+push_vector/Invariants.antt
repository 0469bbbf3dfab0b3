use Rattle.std.proofs.Common.{length}
use Rattle.ta_search.proofs.vector.+push_vector.Given as goal

abbrev pub decreases-push_vector : goal.decreases-push_vector
decreases-push_vector l = length l.holes.now
