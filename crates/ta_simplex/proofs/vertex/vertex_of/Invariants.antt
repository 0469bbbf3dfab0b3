use Rattle.ta_simplex.proofs.ValueLemmas.{ValuesSoFar}
use Rattle.ta_simplex.proofs.vertex.vertex_of.Given as goal

abbrev pub invariant-loop-row : goal.invariant-loop-row
invariant-loop-row g l = ValuesSoFar (g.D.Dictionary.tableau l.dictionary) l.system.unknowns l.row l.values.items
