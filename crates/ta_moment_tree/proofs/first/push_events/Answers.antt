use Rattle.ta_moment_tree.proofs.Common.{rows_of_event}
use Rattle.ta_moment_tree.proofs.Adding.{adds_more}
use Rattle.ta_moment_tree.proofs.Lists.{flat_numbers}
use Rattle.ta_moment_tree.proofs.first.push_events.Goals as goal

pub loop-event-preserved : goal.loop-event-preserved
loop-event-preserved c =
    let t = c.args.plan.now.task in
    adds_more _ _ _ _ _ _ (flat_numbers (rows_of_event t.automaton.now t.pattern.now) c.loop-event.event) c.loop-event.invariant c.in_ok-push_one_event.ensures
