use Rattle.std.proofs.Common.{arith, length, ◌<◌, ◌≤◌, ◌^◌, false-eqb}
use Rattle.ta_base.proofs.decimals.whole_decimal.Goals as goal
use Rattle.ta_base.proofs.DecimalDigits.{not_whole}
use Rattle.ta_base.proofs.Lists.{whole_at}

pub returns-in_err-value : goal.returns-in_err-value
returns-in_err-value c = rw c.from_residual.ensures (λ n is. c.in_err-value.ensures n _ (whole_at c.args.limit n c.args.bytes.now is))

pub returns-else-is_empty : goal.returns-else-is_empty
returns-else-is_empty c =
    let rest = c.in_ok-value.rest.now in
    let fits = c.ranges.limit.fits in
    let small : c.args.limit ≤ 2 ^ 128 = omega arith in
    let more : 0 < length rest = omega (arith, false-eqb (length rest) 0 c.if-is_empty.ensures) in
    λ n is. not_whole c.args.limit c.in_ok-value.value n c.args.bytes.now rest small c.in_ok-value.ensures more is
