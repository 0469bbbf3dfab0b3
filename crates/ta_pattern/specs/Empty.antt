-- Locations that stay empty.
use Rattle.std.specs.Prelude.{ℕ, ◌≡◌, slice_index, IsBitSet}
use Rattle.ta_automaton.specs.Runs.{Config}

-- no process is in a location that a mask names
abbrev pub KeepsEmpty : ℕ → Config → Type 0
KeepsEmpty mask c = (l : ℕ) → IsBitSet mask l → slice_index c.counters l ≡ 0
