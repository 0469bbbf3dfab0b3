use Rattle.ta_rest.proofs.Common.{ℕ, ◌<◌, IsBitSet, ◌↔◌}
use Rattle.ta_rest.proofs.PatternMasks.{Eventless}
use Rattle.ta_rest.proofs.endings.without_events.Given as goal

-- the mask has the numbers of the earlier patterns without events
abbrev pub invariant-loop-number : goal.invariant-loop-number
invariant-loop-number l = (k : ℕ) → IsBitSet l.mask k ↔ ((k < l.number) × Eventless l.patterns k)
