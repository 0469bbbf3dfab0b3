use Rattle.ta_base.proofs.Common.{◌<◌, ◌-◌, ◌^◌, lit<}
use Rattle.ta_base.proofs.Each.{each_copies}
use Rattle.ta_base.proofs.LongMasks.{all_words}
use Rattle.ta_base.proofs.long_mask.LongMask.full.Goals as goal

pub invariant_of-result : goal.invariant_of-result
invariant_of-result c = each_copies (λ w. w < 2 ^ 128) 8 (2 ^ 128 - 1) (lit< tt)

pub returns : goal.returns
returns c = all_words
