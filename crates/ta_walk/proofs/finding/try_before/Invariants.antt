use Rattle.ta_walk.proofs.Common.{GuardTried}
use Rattle.ta_walk.proofs.finding.try_before.Given as goal

abbrev pub invariant-loop-before : goal.invariant-loop-before
invariant-loop-before g l = GuardTried l.automaton l.before l.after l.initial.sought l.sought
