use Rattle.ta_search.proofs.Common.{◌≡◌, map, take, view, tried_data}
use Rattle.ta_search.proofs.object.tries_value.Given as goal

-- the items so far
abbrev pub invariant-vectors : goal.invariant-vectors
invariant-vectors l = record { so_far : map view l.items.items ≡ map (tried_data l.holes) (take l.next-index l.tried) }
