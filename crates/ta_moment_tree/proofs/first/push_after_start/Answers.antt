use Rattle.ta_moment_tree.proofs.Adding.{adds_both}
use Rattle.ta_moment_tree.proofs.first.push_after_start.Goals as goal

pub returns : goal.returns
returns c = adds_both _ _ _ _ _ c.in_ok-push_events.ensures (adds_both _ _ _ _ _ c.in_ok-push_afters.ensures c.in_ok-push_ends.ensures)
