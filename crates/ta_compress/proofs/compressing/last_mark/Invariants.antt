use Rattle.ta_compress.proofs.Lasts.{LastSoFar}
use Rattle.ta_compress.proofs.compressing.last_mark.Given as goal

-- the last mark of the earlier lines
abbrev pub invariant-loop-number : goal.invariant-loop-number
invariant-loop-number l = LastSoFar l.lines l.number l.count
