use Rattle.ta_encode.proofs.Common.{sym, ap, ended_rows}
use Rattle.ta_encode.proofs.Adding.{adds_alike, adds_both}
use Rattle.ta_encode.proofs.draft.Draft.push_end.Goals as goal

pub returns-in_ok-push_counters-in-Some : goal.returns-in_ok-push_counters-in-Some
returns-in_ok-push_counters-in-Some c =
    let draft = c.args.self.now in
    adds_alike (ap (ended_rows draft.automaton.now draft.meanings.items) (sym c.in-Some.is))
    (adds_both c.in_ok-push_rises-in-Some.ensures c.in_ok-push_counters-in-Some.ensures)
