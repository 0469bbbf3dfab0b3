use Rattle.ta_encode.proofs.Common.{◌≡◌, ◌++◌, map, filter, has_bit, range_with_len, firing}
use Rattle.ta_encode.proofs.unknowns.push_firings.Given as goal

abbrev pub invariant-loop-rule : goal.invariant-loop-rule
invariant-loop-rule l = l.meanings.items ≡ l.fn.meanings.items ++ map (firing l.single l.element) (filter (has_bit l.allowed) (range_with_len 0 l.rule))
