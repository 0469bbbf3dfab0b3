use Rattle.std.proofs.Common.{ℕ, ◌<◌, IsBitSet}
use Rattle.ta_replay.proofs.replaying.has_all.Given as goal

-- each earlier number of the part is in the mask
abbrev pub invariant-loop-number : goal.invariant-loop-number
invariant-loop-number l = (f : ℕ) → f < l.number → IsBitSet l.part f → IsBitSet l.mask f
