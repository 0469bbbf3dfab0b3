use Rattle.ta_encode.proofs.Common.{◌≡◌, ◌++◌, map, not, take, filter, has_bit, Start}
use Rattle.ta_encode.proofs.unknowns.push_starts.Given as goal

abbrev pub invariant-loop-location : goal.invariant-loop-location
invariant-loop-location l = l.meanings.items ≡ l.fn.meanings.items ++ map Start (filter (λ k. not (has_bit l.empty k)) (take l.location-index l.location-items))
