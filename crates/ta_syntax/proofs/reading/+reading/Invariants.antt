use Rattle.ta_syntax.proofs.Common.{length, ◌+◌}
use Rattle.std.proofs.Common.{◌*◌}
use Rattle.ta_syntax.proofs.SumExits.{SumSoFar}
use Rattle.ta_syntax.proofs.reading.+reading.Given as goal

abbrev pub decreases-read_factor : goal.decreases-read_factor
decreases-read_factor l = 3 * l.left

abbrev pub decreases-read_term : goal.decreases-read_term
decreases-read_term l = 3 * l.left + 1

abbrev pub decreases-read_sum : goal.decreases-read_sum
decreases-read_sum l = 3 * l.left + 2

abbrev pub invariant-read_sum-loop-terms : goal.invariant-read_sum-loop-terms
invariant-read_sum-loop-terms l = SumSoFar l.left l.tokens l.rest l.sign l.terms.items

abbrev pub decreases-read_sum-loop-terms : goal.decreases-read_sum-loop-terms
decreases-read_sum-loop-terms l = length l.rest
