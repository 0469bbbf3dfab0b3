use Rattle.ta_moment_tree.proofs.Common.{◌∙◌, arith, ap, sym, subst, Vector, below, unknowns_at_first, VectorSpeaks, SmallVector, vector_of, AddsForms}
use Rattle.ta_moment_tree.proofs.Beginning.{event_small, event_speaks, vector_more_small}
use Rattle.ta_moment_tree.proofs.first.push_beneath.Goals as goal

pub event_vector-requires-clause-event : goal.event_vector-requires-clause-event
event_vector-requires-clause-event c =
    let limit = c.args.plan.now.task.over.events_limit in
    let less = c.requires.event in
    omega arith

pub push_below-requires-clause-beneath : goal.push_below-requires-clause-beneath
push_below-requires-clause-beneath c =
    let t = c.args.plan.now.task in
    subst (λ (v : Vector). SmallVector 3 v) (sym (ap vector_of c.as_slice.ensures.value ∙ c.in_ok-beneath.ensures.value))
    (vector_more_small 1 3 _ (omega arith) (event_small t.automaton.now t.pattern.now c.args.event))

pub returns : goal.returns
returns c =
    let t = c.args.plan.now.task in
    let a = t.automaton.now in
    let p = t.pattern.now in
    let n = unknowns_at_first a p in
    let one = ap vector_of c.as_slice.ensures.value ∙ c.in_ok-beneath.ensures.value in
    subst (λ (v : Vector). AddsForms (below a p n v (vector_of c.args.above.now)) c.args.rows.now.items c.push_below.new.rows.items) one
    (c.in_ok-push_below.ensures n (subst (λ (v : Vector). VectorSpeaks n v) (sym one) (event_speaks a p c.args.event c.requires.event)) c.requires.speaks)
