use Rattle.ta_encode.proofs.Adding.{adds_both}
use Rattle.ta_encode.proofs.draft.Draft.push_event.Goals as goal

pub returns : goal.returns
returns c = adds_both c.in_ok-push_counters.ensures (adds_both c.in_ok-push_happening.ensures c.in_ok-push_standing.ensures)
