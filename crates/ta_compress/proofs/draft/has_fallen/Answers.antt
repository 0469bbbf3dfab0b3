use Rattle.ta_compress.proofs.Common.{◌<◌, ◌^◌, arith, false≢true, bit_below}
use Rattle.ta_compress.proofs.draft.has_fallen.Goals as goal

pub returns : goal.returns
returns c =
    let small : c.args.before < 2 ^ 128 = omega arith in (
      λ no. absurd (false≢true no),
      λ h. absurd
          (h.2 (c.loop-number.invariant h.0 (let b = bit_below c.args.before 128 h.0 small h.1 in let past = c.loop-number-test.false in omega arith) h.1)),
    )
