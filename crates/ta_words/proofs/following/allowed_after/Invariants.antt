use Rattle.ta_words.proofs.Common.{reverse, slice_get, Told, may_fire}
use Rattle.ta_words.proofs.following.allowed_after.Given as goal

abbrev pub invariant-loop-number : goal.invariant-loop-number
invariant-loop-number l =
    Told (λ r. may_fire l.task.automaton.now l.task.pattern.now l.start_mask (reverse l.elements) (slice_get l.task.automaton.now.rules r)) l.allowed l.number
