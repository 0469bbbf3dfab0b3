use Rattle.ta_farkas.proofs.Common.{◌*◌, min, FineBefore}
use Rattle.ta_farkas.proofs.check_leaf.Given as goal

abbrev pub invariant-loop-block : goal.invariant-loop-block
invariant-loop-block l = FineBefore l.system l.multipliers (min (l.block * 64) l.system.unknowns)
