use Rattle.ta_replay.proofs.Common.{ap, ◌∙◌, ◌<◌, ◌^◌, w128, signed_decimal, to_z_pos}
use Rattle.ta_replay.proofs.Decimals.{natural, value_is}
use Rattle.ta_replay.proofs.numbers.read_number.Goals as goal

pub returns-in_err-value : goal.returns-in_err-value
returns-in_err-value c = rw c.from_residual.ensures
    (λ value is. let n = natural value is.number in c.in_err-value.ensures n.0 record { text = is.text ∙ ap signed_decimal n.2; below = n.1 })

pub returns : goal.returns
returns c =
    let below : c.in_ok-value.value < 2 ^ 127 = c.in_ok-value.ensures.below in
    rw (to_z_pos w128 c.in_ok-value.value below) (record { number = value_is c.in_ok-value.value below; text = c.in_ok-value.ensures.text })
