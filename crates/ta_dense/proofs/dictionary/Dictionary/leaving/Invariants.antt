use Rattle.std.specs.Prelude.{MatchOption}
use Rattle.ta_dense.proofs.LeastSoFar.{LeastBelow, NoneBelow}
use Rattle.ta_dense.proofs.dictionary.Dictionary.leaving.Given as goal

abbrev pub invariant-loop-row : goal.invariant-loop-row
invariant-loop-row g l = MatchOption l.least (NoneBelow (g.Self.Dictionary.tableau l.self) l.row) (LeastBelow (g.Self.Dictionary.tableau l.self) l.row)
