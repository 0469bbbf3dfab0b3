use Rattle.ta_encode.proofs.Common.{reverse, take, IsDraft}
use Rattle.ta_encode.proofs.draft.Draft.push_elements.Given as goal

abbrev pub invariant-loop-number : goal.invariant-loop-number
invariant-loop-number l = IsDraft l.origin (reverse (take l.number l.elements)) l.self
