use Rattle.std.proofs.Common.{length}
use Rattle.ta_search.proofs.lines.+vector_count.Given as goal

abbrev pub decreases-vector_count : goal.decreases-vector_count
decreases-vector_count l = length l.holes.now
