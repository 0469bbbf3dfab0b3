use Rattle.ta_encode.proofs.Common.{◌≡◌, ◌++◌, map, range_with_len, Parameter}
use Rattle.ta_encode.proofs.unknowns.push_parameters.Given as goal

abbrev pub invariant-loop-parameter : goal.invariant-loop-parameter
invariant-loop-parameter l = l.meanings.items ≡ l.fn.meanings.items ++ map Parameter (range_with_len 0 l.parameter)
