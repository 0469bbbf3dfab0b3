use Rattle.std.proofs.Common.{ℕ, ◌<◌, IsBitSet}
use Rattle.ta_compress.proofs.draft.has_fallen.Given as goal

-- each earlier number of the first mask is in the second
abbrev pub invariant-loop-number : goal.invariant-loop-number
invariant-loop-number l = (j : ℕ) → j < l.number → IsBitSet l.before j → IsBitSet l.now j
