use Rattle.ta_encode.proofs.Common.{◌+◌, ◌≤◌, length, not, arith, ◌∙◌, bit_not, w128, has_bit, standing_bit}
use Rattle.ta_encode.proofs.Adding.{adds_alike, as_they_are, guards_same}
use Rattle.ta_encode.proofs.draft.Draft.push_standing.Goals as goal

pub returns : goal.returns
returns c =
    let a = c.args.self.now.automaton.now in
    let few : 0 + length a.fall ≤ 128 = (let limit = a.shape.limits.fall_limit in omega arith) in
    adds_alike (as_they_are _ ∙ guards_same a c.args.self.now.meanings.items (has_bit (bit_not w128 c.args.fallen)) (λ j. not (has_bit c.args.fallen j)) 0 128
    a.fall (λ j b. standing_bit c.args.fallen j c.ranges.fallen.fits b) few) c.in_ok-push_falls.ensures
