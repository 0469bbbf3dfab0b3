use Rattle.ta_pattern.proofs.Common.{◌≡◌, ℕ, ◌<◌, pos, IsBitSet, point_of, location_place}
use Rattle.ta_pattern.proofs.empty.holds_empty.Given as goal

-- each earlier location of the mask has counter 0
abbrev pub invariant-loop-location : goal.invariant-loop-location
invariant-loop-location l =
    (k : ℕ) → k < l.location → IsBitSet l.pattern.empty k → point_of l.config.values.items (location_place l.automaton k) ≡ pos 0
