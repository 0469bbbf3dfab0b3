use Rattle.std.proofs.Common.{ℕ, ◌<◌, IsBitSet}
use Rattle.ta_replay.proofs.replaying.first_unmarked.Given as goal

-- each earlier event is marked
abbrev pub invariant-loop-event : goal.invariant-loop-event
invariant-loop-event l = (f : ℕ) → f < l.event → IsBitSet l.marks f
