use Rattle.ta_encode.proofs.Common.{◌≡◌, length, reverse, take, meanings}
use Rattle.ta_encode.proofs.count.unknown_count.Given as goal

abbrev pub invariant-loop-number : goal.invariant-loop-number
invariant-loop-number l = l.count ≡ length (meanings l.task.automaton.now l.task.pattern.now l.start_mask (reverse (take l.number l.elements)))
