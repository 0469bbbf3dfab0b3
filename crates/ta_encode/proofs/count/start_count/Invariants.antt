use Rattle.ta_encode.proofs.Common.{◌≡◌, ◌+◌, length, not, take, filter, has_bit}
use Rattle.ta_encode.proofs.count.start_count.Given as goal

abbrev pub invariant-loop-location : goal.invariant-loop-location
invariant-loop-location l = l.count ≡ length l.automaton.parameters + length
    (filter (λ k. not (has_bit l.pattern.empty k)) (take l.location-index l.location-items))
