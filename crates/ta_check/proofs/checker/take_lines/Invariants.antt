use Rattle.ta_check.proofs.Common.{length, claiming_with}
use Rattle.ta_check.proofs.Pieces.{FrontTaken}
use Rattle.ta_check.proofs.checker.take_lines.Given as goal

abbrev pub invariant-lines : goal.invariant-lines
invariant-lines l = FrontTaken (claiming_with l.claim l.file l.silent) l.fn.reader l.fn.position l.piece l.rest l.reader l.position

abbrev pub decreases-lines : goal.decreases-lines
decreases-lines l = length l.rest
