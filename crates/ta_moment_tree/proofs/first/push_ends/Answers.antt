use Rattle.ta_moment_tree.proofs.Common.{ℕ, ◌∙◌, ◌+◌, ◌++◌, List, length, filter, range_with_len, arith, ap, sym, subst, Row, flat_map, UnknownForm, Vector}
use Rattle.ta_moment_tree.proofs.Common.{below, end_vector, event_vector, is_beside, unknowns_at_first, VectorSpeaks, SmallVector, AddsForms, Event}
use Rattle.ta_moment_tree.proofs.Adding.{adds_more, adds_same}
use Rattle.ta_moment_tree.proofs.Beginning.{end_small, end_speaks, vector_more_small}
use Rattle.ta_moment_tree.proofs.Lists.{flat_kept, flat_left}
use Rattle.ta_moment_tree.proofs.first.push_ends.Goals.{then-is_beside+in_ok-push_beneath, else-is_beside}
use Rattle.ta_moment_tree.proofs.first.push_ends.Goals as goal

pub push_beneath-requires-clause-event : goal.push_beneath-requires-clause-event
push_beneath-requires-clause-event c =
    let same = ap (λ (es : List Event). length es) c.as_slice-event-end.ensures in
    let b = c.loop-event-test.true in
    omega arith

pub push_beneath-requires-clause-above : goal.push_beneath-requires-clause-above
push_beneath-requires-clause-above c =
    let t = c.args.plan.now.task in
    subst (λ (v : Vector). SmallVector 3 v) (sym c.requires.end)
    (vector_more_small 1 3 _ (omega arith) (end_small t.automaton.now t.pattern.now c.args.candidate))

pub push_beneath-requires-clause-speaks : goal.push_beneath-requires-clause-speaks
push_beneath-requires-clause-speaks c =
    let t = c.args.plan.now.task in
    subst (λ (v : Vector). VectorSpeaks (unknowns_at_first t.automaton.now t.pattern.now) v) (sym c.requires.end)
    (end_speaks t.automaton.now t.pattern.now c.args.candidate c.requires.candidate)

pub loop-event-preserved : goal.loop-event-preserved
loop-event-preserved c =
    let t = c.args.plan.now.task in
    let a = t.automaton.now in
    let p = t.pattern.now in
    let n = unknowns_at_first a p in
    let e = c.loop-event.event in
    let test = is_beside p c.args.candidate in
    let end = end_vector a p c.args.candidate in
    let g : ℕ → List UnknownForm = λ k. below a p n (event_vector a p k) end in
    elim c.if-is_beside.branch [
      | then-is_beside+in_ok-push_beneath w ↦
          subst (λ (rs : List Row). AddsForms (flat_map g (filter test (range_with_len 0 (e + 1)))) c.args.rows.now.items rs)
          (sym (ap (λ v. v.items) w.rows-is))
          (adds_more _ _ _ _ _ _
          (ap (λ (v : Vector). flat_map g (filter test (range_with_len 0 e)) ++ below a p n (event_vector a p e) v) c.requires.end
          ∙ flat_kept g test e (sym c.is_beside.ensures ∙ w.if-is_beside.true))
          c.loop-event.invariant w.in_ok-push_beneath.ensures)
      | else-is_beside w ↦
          subst (λ (rs : List Row). AddsForms (flat_map g (filter test (range_with_len 0 (e + 1)))) c.args.rows.now.items rs)
          (sym (ap (λ v. v.items) w.rows-is))
          (adds_same _ _ _ _ (flat_left g test e (sym c.is_beside.ensures ∙ w.if-is_beside.false)) c.loop-event.invariant)
    ]
