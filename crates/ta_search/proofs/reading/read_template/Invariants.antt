use Rattle.std.proofs.Common.{length}
use Rattle.ta_search.proofs.Heads.{Read}
use Rattle.ta_search.proofs.reading.read_template.Given as goal

abbrev pub invariant-lines : goal.invariant-lines
invariant-lines l = Read l.fn.bytes l.holes.items l.rest

abbrev pub decreases-lines : goal.decreases-lines
decreases-lines l = length l.rest
