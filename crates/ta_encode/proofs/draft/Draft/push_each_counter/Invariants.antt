use Rattle.ta_encode.proofs.Common.{map, not, filter, has_bit, range_with_len, counter_row, Adds, in_sense}
use Rattle.ta_encode.proofs.draft.Draft.push_each_counter.Given as goal

abbrev pub invariant-loop-location : goal.invariant-loop-location
invariant-loop-location l = Adds
    (λ a ms. map (λ k. in_sense l.sense (counter_row a ms k)) (filter (λ k. not (has_bit l.empty k)) (range_with_len 0 l.location))) l.fn.self l.self
