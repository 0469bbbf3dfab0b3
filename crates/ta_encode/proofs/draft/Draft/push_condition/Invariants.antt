use Rattle.ta_encode.proofs.Common.{take, condition_rows, Adds}
use Rattle.ta_encode.proofs.draft.Draft.push_condition.Given as goal

abbrev pub invariant-loop-comparison : goal.invariant-loop-comparison
invariant-loop-comparison l = Adds (λ a ms. condition_rows a ms (take l.comparison-index l.comparison-items)) l.fn.self l.self
