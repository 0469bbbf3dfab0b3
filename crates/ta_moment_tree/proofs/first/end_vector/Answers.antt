use Rattle.ta_moment_tree.proofs.Common.{ℕ, Option, arith, subst, In, candidates, event_less}
use Rattle.ta_moment_tree.proofs.first.end_vector.Goals as goal

pub event_vector-requires-clause-event : goal.event_vector-requires-clause-event
event_vector-requires-clause-event c =
    let t = c.args.plan.now.task in
    let less = event_less t.pattern.now c.in-Some.event (subst (λ (o : Option ℕ). In o (candidates t.pattern.now)) c.in-Some.is c.requires.candidate) in
    let limit = t.over.events_limit in
    omega arith
