use Rattle.ta_base.proofs.Common.{◌≡◌, ◌<◌, ◌^◌, take, digits_value}
use Rattle.ta_base.proofs.decimals.value_of_digits.Given as goal

abbrev pub invariant-loop-digit : goal.invariant-loop-digit
invariant-loop-digit l = record { so_far : l.value ≡ digits_value 10 (take l.digit-index l.digits); fits : l.value < 2 ^ 128 }
