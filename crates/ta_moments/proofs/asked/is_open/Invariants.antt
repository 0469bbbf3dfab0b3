use Rattle.ta_moments.proofs.Common.{◌≡◌, drop, is_open}
use Rattle.ta_moments.proofs.asked.is_open.Given as goal

abbrev pub invariant-loop-fact : goal.invariant-loop-fact
invariant-loop-fact l = is_open l.facts l.question ≡ is_open (drop l.fact-index l.facts) l.question
