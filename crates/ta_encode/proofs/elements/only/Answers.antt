use Rattle.ta_base.proofs.Bits.{has_no_bit, only_bit}
use Rattle.ta_encode.proofs.elements.only.Goals as goal

pub returns-then-number-lt128 : goal.returns-then-number-lt128
returns-then-number-lt128 c = λ k b. only_bit 128 c.args.number k c.if-number-lt128.true

pub returns-else-number-lt128 : goal.returns-else-number-lt128
returns-else-number-lt128 c = λ k b. has_no_bit 128 c.args.number k c.if-number-lt128.false b
