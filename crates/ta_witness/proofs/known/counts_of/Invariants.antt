use Rattle.ta_witness.proofs.Common.{map, range_with_len, Count, unknown_value, AreValues}
use Rattle.ta_witness.proofs.known.counts_of.Given as goal

-- the Counts of the earlier rules
abbrev pub invariant-loop-rule : goal.invariant-loop-rule
invariant-loop-rule l = AreValues (map (λ r. unknown_value l.meanings l.values (Count l.element r)) (range_with_len 0 l.rule)) l.numbers.items
