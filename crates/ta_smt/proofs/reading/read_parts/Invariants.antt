use Rattle.ta_smt.proofs.Common.{◌≡◌, map, those_elements}
use Rattle.ta_smt.proofs.reading.read_parts.Given as goal

-- the elements of the parts so far
abbrev pub invariant-loop-part : goal.invariant-loop-part
invariant-loop-part l = l.elements.items ≡ those_elements (map (λ y. y.now) l.yielded)
