use Rattle.ta_base.proofs.Common.{◌/◌, ◌^◌, ◌<◌, ◌≡◌, ◌⊎◌, ◌↔◌, arith, length, subst, set, IsBitSet}
use Rattle.ta_base.specs.Masks.{AreWords, words_value}
use Rattle.ta_base.proofs.Each.{each_set}
use Rattle.ta_base.proofs.LongMasks.{inserted_bit}
use Rattle.ta_base.proofs.long_mask.LongMask.insert.Goals as goal

pub returns : goal.returns
returns c =
    let words = c.self.inside.words in
    let n = c.args.number in
    let new : AreWords (set words (n / 128) c.with.result) = each_set (λ w. w < 2 ^ 128) words (n / 128) c.with.result c.self.invariant c.with.type_inv in
    let within : n / 128 < length words = (let eight = c.self.told in omega arith) in
    λ i. subst (λ m. IsBitSet (words_value (set words (n / 128) c.with.result)) i ↔ (IsBitSet m i ⊎ (i ≡ n))) c.self.view_is
    (inserted_bit words c.with.result n c.self.invariant new within c.with.ensures i)
