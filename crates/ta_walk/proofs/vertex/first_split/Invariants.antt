use Rattle.ta_walk.proofs.Common.{ℕ, ◌<◌, slice_get, IsWhole, IsSomeAnd}
use Rattle.ta_walk.proofs.vertex.first_split.Given as goal

-- the values so far are whole
abbrev pub invariant-loop-unknown : goal.invariant-loop-unknown
invariant-loop-unknown l = (k : ℕ) → k < l.unknown → IsSomeAnd (slice_get l.values k) IsWhole
