use Rattle.ta_base.proofs.masks.with.Goals as goal
use Rattle.ta_base.proofs.Bits.{with_bit}

pub returns-then-number-lt128 : goal.returns-then-number-lt128
returns-then-number-lt128 c = λ i b. with_bit 128 c.args.mask c.args.number i c.if-number-lt128.true
