use Rattle.ta_moments.proofs.Common.{◌≡◌, map, places_named}
use Rattle.ta_moments.proofs.naming.places_named.Given as goal

-- the places of the names so far
abbrev pub invariant-loop-name : goal.invariant-loop-name
invariant-loop-name l = l.places.items ≡ places_named l.automaton (map (λ y. y.now) l.yielded)
