use Rattle.std.proofs.Common.{length}
use Rattle.ta_smt.proofs.ValueTexts.{Read}
use Rattle.ta_smt.proofs.values.read_values.Given as goal

abbrev pub invariant-lines : goal.invariant-lines
invariant-lines l = Read l.fn.bytes l.values.items l.rest

abbrev pub decreases-lines : goal.decreases-lines
decreases-lines l = length l.rest
