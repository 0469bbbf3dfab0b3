use Rattle.ta_revised.proofs.Common.{◌≡◌, range_with_len}
use Rattle.ta_revised.proofs.revised.RevisedDictionary.first.Given as goal

abbrev pub invariant-loop-unknown : goal.invariant-loop-unknown
invariant-loop-unknown l = l.non_basic.items ≡ range_with_len 0 l.unknown
