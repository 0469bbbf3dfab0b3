use Rattle.ta_farkas.proofs.Sums.{Summed}
use Rattle.ta_farkas.proofs.sum_of_constants.Given as goal

abbrev pub invariant-loop-row : goal.invariant-loop-row
invariant-loop-row l = Summed l.system l.multipliers l.system.unknowns l.row-index l.sum
