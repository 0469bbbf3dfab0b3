use Rattle.ta_replay.proofs.Common.{◌≡◌, ℕ, ◌<◌, pos, slice_get, Some, IsBitSet, point_of}
use Rattle.ta_replay.proofs.replaying.first_filled.Given as goal

-- no earlier initial location of `empty` has a process
abbrev pub invariant-loop-place : goal.invariant-loop-place
invariant-loop-place l =
    (i k : ℕ) → i < l.place → slice_get l.automaton.initial i ≡ Some k → IsBitSet l.pattern.empty k → point_of l.run.counts i ≡ pos 0
