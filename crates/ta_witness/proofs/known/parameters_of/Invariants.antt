use Rattle.ta_witness.proofs.Common.{map, range_with_len, Parameter, unknown_value, AreValues}
use Rattle.ta_witness.proofs.known.parameters_of.Given as goal

-- the values of the earlier parameters
abbrev pub invariant-loop-parameter : goal.invariant-loop-parameter
invariant-loop-parameter l = AreValues (map (λ i. unknown_value l.meanings l.values (Parameter i)) (range_with_len 0 l.parameter)) l.numbers.items
