use Rattle.ta_walk.proofs.Common.{pos, take, ◌<ℤ◌, ◌^◌, AllByRecursion}
use Rattle.ta_walk.proofs.showing.read_all.Given as goal

abbrev pub invariant-loop-value : goal.invariant-loop-value
invariant-loop-value l = AllByRecursion (λ z. z <ℤ pos (2 ^ 127)) (take l.value-index l.values)
