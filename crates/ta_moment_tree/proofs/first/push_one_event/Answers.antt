use Rattle.ta_moment_tree.proofs.Common.{◌∙◌, slice_get, arith, ap, sym, subst, Vector, counters_at, event_at, SmallVector, vector_of, AddsForms}
use Rattle.ta_moment_tree.proofs.Adding.{adds_both}
use Rattle.ta_moment_tree.proofs.Beginning.{event_small, vector_more_small}
use Rattle.ta_moment_tree.proofs.first.push_one_event.Goals as goal

pub push_counters-requires-clause-vector : goal.push_counters-requires-clause-vector
push_counters-requires-clause-vector c =
    let t = c.args.plan.now.task in
    subst (λ (v : Vector). SmallVector 3 v) (sym (ap vector_of c.as_slice.ensures.value ∙ c.in_ok-vector.ensures.value))
    (vector_more_small 1 3 _ (omega arith) (event_small t.automaton.now t.pattern.now c.args.event))

pub push_event-requires-clause-vector : goal.push_event-requires-clause-vector
push_event-requires-clause-vector c =
    let t = c.args.plan.now.task in
    subst (λ (v : Vector). SmallVector 3 v) (sym (ap vector_of c.as_slice-2.ensures.value ∙ c.in_ok-vector.ensures.value))
    (vector_more_small 1 3 _ (omega arith) (event_small t.automaton.now t.pattern.now c.args.event))

pub returns : goal.returns
returns c =
    let t = c.args.plan.now.task in
    let one = ap vector_of c.as_slice.ensures.value ∙ c.in_ok-vector.ensures.value in
    let two = ap vector_of c.as_slice-2.ensures.value ∙ c.in_ok-vector.ensures.value in
    adds_both _ _ _ _ _
    (subst (λ (v : Vector). AddsForms (counters_at t.automaton.now t.pattern.now v) c.args.rows.now.items c.push_counters.new.rows.items) one
    c.in_ok-push_counters.ensures)
    (subst (λ (v : Vector). AddsForms (event_at t.automaton.now t.pattern.now v (slice_get t.pattern.now.events c.args.event)) c.push_counters.new.rows.items
    c.push_event.new.rows.items) two c.in_ok-push_event.ensures)
