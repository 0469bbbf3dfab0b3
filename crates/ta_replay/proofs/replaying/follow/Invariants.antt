use Rattle.ta_replay.specs.Inside.Following.{Following}
use Rattle.ta_replay.proofs.replaying.follow.Given as goal

abbrev pub invariant-loop-number : goal.invariant-loop-number
invariant-loop-number l = Following l.automaton l.pattern l.run l.number l.config l.marks
