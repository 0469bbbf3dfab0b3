use Rattle.ta_witness.proofs.Common.{◌≡◌, ◌++◌, drop, map, take, Shape, shape}
use Rattle.ta_witness.specs.Inside.Stops.{with_shape}
use Rattle.ta_witness.proofs.stops.place_of.Given as goal

-- it goes behind the earlier stops
abbrev pub invariant-loop-number : goal.invariant-loop-number
invariant-loop-number l = (s : Shape) → s.0 ≡ l.counts → with_shape s (map shape l.stops) ≡ take l.number (map shape l.stops)
    ++ with_shape s (drop l.number (map shape l.stops))
