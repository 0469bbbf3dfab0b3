use Rattle.ta_encode.proofs.Common.{ap, ◌∙◌, has_bit, guard_rows}
use Rattle.ta_encode.proofs.Adding.{adds_alike, adds_both, as_they_are}
use Rattle.ta_encode.proofs.draft.Draft.push_falling.Goals as goal

pub returns : goal.returns
returns c =
    let draft = c.push_counters.new.self in
    let a = draft.automaton.now in
    let falling = adds_alike {g = λ b ms. guard_rows b ms (has_bit c.args.falls) 0 b.fall}
    (as_they_are _ ∙ ap (λ m. guard_rows a draft.meanings.items (has_bit m) 0 a.fall) c.from.ensures) c.in_ok-push_falls.ensures in
    adds_both c.in_ok-push_counters.ensures falling
