use Rattle.ta_encode.proofs.Common.{map, ap, has_bit, guard_rows, negated}
use Rattle.ta_encode.proofs.Adding.{adds_alike, adds_both}
use Rattle.ta_encode.proofs.draft.Draft.push_fallen.Goals as goal

pub returns : goal.returns
returns c =
    let draft = c.push_counters.new.self in
    let a = draft.automaton.now in
    let fell = adds_alike {g = λ b ms. map negated (guard_rows b ms (has_bit c.args.falls) 0 b.fall)}
    (ap (λ m. map negated (guard_rows a draft.meanings.items (has_bit m) 0 a.fall)) c.from.ensures) c.in_ok-push_falls.ensures in
    adds_both c.in_ok-push_counters.ensures (adds_both fell c.in_ok-push_standing.ensures)
