use Rattle.ta_base.proofs.Common.{arith, is_ascii_digit, prefix_len-le-length}
use Rattle.ta_base.proofs.decimals.split_digits.Goals as goal
use Rattle.ta_base.proofs.DecimalDigits.{run}

pub split_at-requires : goal.split_at-requires
split_at-requires c = omega (arith, prefix_len-le-length is_ascii_digit c.args.bytes.now, c.digits_len.ensures)

pub returns : goal.returns
returns c = rw (c.split_at.ensures.front, c.split_at.ensures.back, c.digits_len.ensures) (run c.args.bytes.now)
