use Rattle.ta_moment_tree.proofs.Common.{◌∙◌, arith, ap, vector_of}
use Rattle.ta_moment_tree.proofs.first.push_after.Goals as goal

pub event_vector-requires-clause-event : goal.event_vector-requires-clause-event
event_vector-requires-clause-event c =
    let limit = c.args.plan.now.task.over.events_limit in
    let less = c.requires.event in
    omega arith

pub push_earlier-requires-clause-above : goal.push_earlier-requires-clause-above
push_earlier-requires-clause-above c = ap vector_of c.as_slice.ensures.value ∙ c.in_ok-above.ensures.value
