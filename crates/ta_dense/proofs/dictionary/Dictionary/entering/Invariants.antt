use Rattle.std.specs.Prelude.{MatchOption}
use Rattle.ta_dense.proofs.EnterSoFar.{EntersBelow, NoneEntersBelow}
use Rattle.ta_dense.proofs.dictionary.Dictionary.entering.Given as goal

abbrev pub invariant-loop-column : goal.invariant-loop-column
invariant-loop-column g l = MatchOption l.least (NoneEntersBelow (g.Self.Dictionary.tableau l.self) l.row l.column)
    (EntersBelow (g.Self.Dictionary.tableau l.self) l.row l.column)
