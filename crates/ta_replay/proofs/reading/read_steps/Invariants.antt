use Rattle.ta_replay.proofs.Common.{length, StepsBegun}
use Rattle.ta_replay.proofs.reading.read_steps.Given as goal

abbrev pub invariant-lines : goal.invariant-lines
invariant-lines l = StepsBegun l.fn.automaton l.fn.pattern l.fn.bytes l.lines.items l.rest

abbrev pub decreases-lines : goal.decreases-lines
decreases-lines l = length l.rest
