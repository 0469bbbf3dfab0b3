use Rattle.ta_meaning.proofs.Common.{drop, map, location_spelled}
use Rattle.ta_meaning.proofs.DeclaredSteps.{DeclaredTo}
use Rattle.ta_meaning.proofs.declarations.declare_locations.Given as goal

-- the names before are declared, and the rest is left
abbrev pub invariant-loop-location : goal.invariant-loop-location
invariant-loop-location l = DeclaredTo l.initial.names (map location_spelled l.locations) l.names (map location_spelled (drop l.location-index l.locations))
