use Rattle.ta_words.proofs.Common.{take, reverse, IsSeen}
use Rattle.ta_words.proofs.seen.Seen.of.Given as goal

abbrev pub invariant-loop-element : goal.invariant-loop-element
invariant-loop-element l = IsSeen l.seen l.start_mask (reverse (take l.element-index l.word))
