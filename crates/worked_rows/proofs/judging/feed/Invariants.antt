use Rattle.ta_check.specs.Checkers.{IsSoundChecker}
use Rattle.worked_rows.proofs.judging.feed.Given as goal

abbrev pub invariant-loop-piece : goal.invariant-loop-piece
invariant-loop-piece l = IsSoundChecker l.checker
