use Rattle.ta_encode.proofs.Common.{take, start_guard_rows, Adds}
use Rattle.ta_encode.proofs.draft.Draft.push_start_guards.Given as goal

abbrev pub invariant-loop-number : goal.invariant-loop-number
invariant-loop-number l = Adds (λ a ms. start_guard_rows a ms l.start_mask 0 (take l.number l.guard-items)) l.fn.self l.self
