use Rattle.ta_witness.proofs.Common.{◌≡◌, ◌≤◌, [], drop, length, map, AllByRecursion, MomentStays, shape}
use Rattle.ta_witness.specs.Inside.Stops.{shapes_from, with_shapes}
use Rattle.ta_witness.proofs.stops.stops_of.Given as goal

-- the stops of the later moments are there
abbrev pub invariant-loop-left : goal.invariant-loop-left
invariant-loop-left l =
    (l.left ≤ length l.moments)
    × (map shape l.stops.items ≡ with_shapes (shapes_from l.automaton l.pattern l.values l.left (drop l.left l.moments)) [])
    × AllByRecursion (MomentStays l.values) (drop l.left l.moments)

abbrev pub decreases-loop-left : goal.decreases-loop-left
decreases-loop-left l = l.left
