use Rattle.ta_base.proofs.Common.{subst, sym, IsBitSet}
use Rattle.ta_base.proofs.LongMasks.{word_bit}
use Rattle.ta_base.proofs.long_mask.LongMask.contains.Goals as goal

pub returns : goal.returns
returns c =
    let words = c.self.inside.words in
    let n = c.args.number in
    let told = word_bit words n c.self.invariant in (
      λ t. subst (λ m. IsBitSet m n) c.self.view_is (told.1 (c.contains.ensures.tells.0 t)),
      λ b. c.contains.ensures.tells.1 (told.0 (subst (λ m. IsBitSet m n) (sym c.self.view_is) b)),
    )
