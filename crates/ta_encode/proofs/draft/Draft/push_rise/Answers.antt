use Rattle.ta_encode.proofs.Common.{◌+◌, ◌≤◌, length, arith, ◌∙◌, ◌==◌, has_bit, guard_rows}
use Rattle.ta_encode.proofs.Adding.{adds_alike, adds_both, as_they_are, guards_same}
use Rattle.ta_encode.proofs.draft.Draft.push_rise.Goals as goal

pub returns : goal.returns
returns c =
    let a = c.push_counters.new.self.automaton.now in
    let few : 0 + length a.rise ≤ 128 = (let limit = a.shape.limits.rise_limit in omega arith) in
    let rise = adds_alike {g = λ b ms. guard_rows b ms (λ k. k == c.args.rise) 0 b.rise}
    (as_they_are _ ∙ guards_same a c.push_counters.new.self.meanings.items (has_bit c.only.result) (λ k. k == c.args.rise) 0 128 a.rise c.only.ensures few)
    c.in_ok-push_rises.ensures in
    adds_both c.in_ok-push_counters.ensures (adds_both rise c.in_ok-push_standing.ensures)
