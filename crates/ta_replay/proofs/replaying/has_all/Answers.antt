use Rattle.ta_replay.proofs.Common.{◌≤◌, ◌<◌, ◌^◌, arith, refl, bit_below}
use Rattle.ta_replay.proofs.replaying.has_all.Goals as goal

pub returns : goal.returns
returns c =
    let small : c.args.part < 2 ^ 8 = omega arith in
    let past : 8 ≤ c.loop-number.number = (let t = c.loop-number-test.false in omega arith) in
    (λ _ f bit. c.loop-number.invariant f (let b = bit_below c.args.part 8 f small bit in omega arith) bit, λ _. refl)
