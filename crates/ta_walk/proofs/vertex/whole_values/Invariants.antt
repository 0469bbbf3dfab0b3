use Rattle.ta_walk.proofs.Common.{take, AreNumbers}
use Rattle.ta_walk.proofs.vertex.whole_values.Given as goal

-- the numbers so far are the values so far
abbrev pub invariant-loop-value : goal.invariant-loop-value
invariant-loop-value l = AreNumbers (take l.value-index l.values) l.numbers.items
