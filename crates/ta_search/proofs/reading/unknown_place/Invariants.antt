use Rattle.std.proofs.Common.{length}
use Rattle.ta_search.proofs.Bodies.{Behind}
use Rattle.ta_search.proofs.reading.unknown_place.Given as goal

abbrev pub invariant-bytes : goal.invariant-bytes
invariant-bytes l = Behind l.holes l.body l.place l.rest

abbrev pub decreases-bytes : goal.decreases-bytes
decreases-bytes l = length l.rest
