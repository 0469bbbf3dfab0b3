use Rattle.ta_encode.proofs.Common.{map, take, has_bit, guard_rows, Adds, in_sense}
use Rattle.ta_encode.proofs.draft.Draft.push_guards.Given as goal

abbrev pub invariant-loop-number : goal.invariant-loop-number
invariant-loop-number l = Adds (λ a ms. map (in_sense l.sense) (guard_rows a ms (has_bit l.mask) 0 (take l.number l.guards))) l.fn.self l.self
