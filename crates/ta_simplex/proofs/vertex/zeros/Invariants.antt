use Rattle.ta_simplex.proofs.Common.{AreZeros}
use Rattle.ta_simplex.proofs.vertex.zeros.Given as goal

abbrev pub invariant-loop-unknown : goal.invariant-loop-unknown
invariant-loop-unknown l = AreZeros l._unknown l.values.items
