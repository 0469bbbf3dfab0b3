use Rattle.ta_revised.proofs.Common.{narrow_view}
use Rattle.std.specs.Prelude.{MatchOption}
use Rattle.ta_revised.proofs.EnterSoFar.{EntersBelow, NoneEntersBelow}
use Rattle.ta_revised.proofs.revised.RevisedDictionary.entering.Given as goal

abbrev pub invariant-loop-column : goal.invariant-loop-column
invariant-loop-column l = MatchOption l.least (NoneEntersBelow l.self.non_basic (narrow_view l.row) l.column)
    (EntersBelow l.self.non_basic (narrow_view l.row) l.column)
