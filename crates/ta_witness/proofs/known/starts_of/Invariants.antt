use Rattle.ta_witness.proofs.Common.{map, take, Start, unknown_value, AreValues}
use Rattle.ta_witness.proofs.known.starts_of.Given as goal

-- the start counts of the earlier locations
abbrev pub invariant-loop-location : goal.invariant-loop-location
invariant-loop-location l = AreValues (map (λ k. unknown_value l.meanings l.values (Start k)) (take l.location-index l.locations)) l.numbers.items
