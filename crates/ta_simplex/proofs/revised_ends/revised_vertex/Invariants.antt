use Rattle.ta_simplex.proofs.Common.{AreRevisedValues}
use Rattle.ta_simplex.proofs.revised_ends.revised_vertex.Given as goal

abbrev pub invariant-loop-unknown : goal.invariant-loop-unknown
invariant-loop-unknown l = AreRevisedValues l.dictionary l.unknown l.values.items
