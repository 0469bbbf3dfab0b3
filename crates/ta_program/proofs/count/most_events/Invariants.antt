use Rattle.ta_program.proofs.Common.{◌≡◌, drop, max, most_events}
use Rattle.ta_program.proofs.count.most_events.Given as goal

-- the most so far, or in the patterns that are left
abbrev pub invariant-loop-pattern : goal.invariant-loop-pattern
invariant-loop-pattern l = max l.most (most_events (drop l.pattern-index l.patterns)) ≡ most_events l.patterns
