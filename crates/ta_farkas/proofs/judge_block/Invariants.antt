use Rattle.ta_farkas.proofs.Common.{◌+◌, FineBefore}
use Rattle.ta_farkas.proofs.judge_block.Given as goal

abbrev pub invariant-loop-at : goal.invariant-loop-at
invariant-loop-at l = FineBefore l.system l.multipliers (l.first + l.at)
