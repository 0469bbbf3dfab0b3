use Rattle.ta_base.proofs.Common.{ap, ◌∙◌, arith, take_all, digits_value}
use Rattle.ta_base.proofs.decimals.value_of_digits.Goals as goal
use Rattle.ta_base.proofs.DecimalDigits.{value_more}

pub returns-in_err-checked_mul : goal.returns-in_err-checked_mul
returns-in_err-checked_mul c =
    let more = value_more c.args.digits.now c.loop-digit.digit-index c.loop-digit.value (omega arith) c.requires c.loop-digit.invariant.so_far in
    rw c.from_residual.ensures (λ below. c.in_err-checked_mul.ensures (omega arith))

pub overflow_sub-digit : goal.overflow_sub-digit
overflow_sub-digit c = (value_more c.args.digits.now c.loop-digit.digit-index c.loop-digit.value (omega arith) c.requires c.loop-digit.invariant.so_far).2

pub returns-in_err-value : goal.returns-in_err-value
returns-in_err-value c =
    let more = value_more c.args.digits.now c.loop-digit.digit-index c.loop-digit.value (omega arith) c.requires c.loop-digit.invariant.so_far in
    let times = c.in_ok-checked_mul.ensures in
    rw c.from_residual-in_err-value.ensures (λ below. c.in_err-value.ensures (omega arith))

pub loop-digit-preserved : goal.loop-digit-preserved
loop-digit-preserved c =
    let more = value_more c.args.digits.now c.loop-digit.digit-index c.loop-digit.value (omega arith) c.requires c.loop-digit.invariant.so_far in
    let times = c.in_ok-checked_mul.ensures in
    let plus = c.in_ok-value.ensures in
    record { so_far = omega arith; fits = omega arith }

pub returns : goal.returns
returns c =
    let inv = c.loop-digit.invariant in
    let fits = inv.fits in
    let all = inv.so_far ∙ ap (digits_value 10) (take_all c.loop-digit.digit-index c.args.digits.now (omega arith)) in
    (omega arith, all)
