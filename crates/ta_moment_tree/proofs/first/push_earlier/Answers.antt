use Rattle.ta_moment_tree.proofs.Common.{ℕ, ◌∙◌, ◌+◌, ◌++◌, List, filter, slice_get, range_with_len, arith, ap, sym, subst, Row, flat_map, comes_after}
use Rattle.ta_moment_tree.proofs.Common.{UnknownForm, Vector, below, event_vector, unknowns_at_first, VectorSpeaks, SmallVector, AddsForms}
use Rattle.ta_moment_tree.proofs.Adding.{adds_more, adds_same}
use Rattle.ta_moment_tree.proofs.Beginning.{event_small, event_speaks, vector_more_small}
use Rattle.ta_moment_tree.proofs.Lists.{flat_kept, flat_left}
use Rattle.ta_moment_tree.proofs.first.push_earlier.Goals.{then-comes_after+in_ok-push_beneath, else-comes_after}
use Rattle.ta_moment_tree.proofs.first.push_earlier.Goals as goal

pub push_beneath-requires-clause-event : goal.push_beneath-requires-clause-event
push_beneath-requires-clause-event c =
    let less = c.requires.event in
    let b = c.loop-other-test.true in
    omega arith

pub push_beneath-requires-clause-above : goal.push_beneath-requires-clause-above
push_beneath-requires-clause-above c =
    let t = c.args.plan.now.task in
    subst (λ (v : Vector). SmallVector 3 v) (sym c.requires.above)
    (vector_more_small 1 3 _ (omega arith) (event_small t.automaton.now t.pattern.now c.args.event))

pub push_beneath-requires-clause-speaks : goal.push_beneath-requires-clause-speaks
push_beneath-requires-clause-speaks c =
    let t = c.args.plan.now.task in
    subst (λ (v : Vector). VectorSpeaks (unknowns_at_first t.automaton.now t.pattern.now) v) (sym c.requires.above)
    (event_speaks t.automaton.now t.pattern.now c.args.event c.requires.event)

pub loop-other-preserved : goal.loop-other-preserved
loop-other-preserved c =
    let t = c.args.plan.now.task in
    let a = t.automaton.now in
    let p = t.pattern.now in
    let n = unknowns_at_first a p in
    let e = c.args.event in
    let f = c.loop-other.other in
    let test = comes_after (slice_get p.events e) in
    let g : ℕ → List UnknownForm = λ k. below a p n (event_vector a p k) (event_vector a p e) in
    elim c.if-comes_after.branch [
      | then-comes_after+in_ok-push_beneath w ↦
          subst (λ (rs : List Row). AddsForms (flat_map g (filter test (range_with_len 0 (f + 1)))) c.args.rows.now.items rs)
          (sym (ap (λ v. v.items) w.rows-is))
          (adds_more _ _ _ _ _ _
          (ap (λ (v : Vector). flat_map g (filter test (range_with_len 0 f)) ++ below a p n (event_vector a p f) v) c.requires.above
          ∙ flat_kept g test f (sym c.comes_after.ensures ∙ w.if-comes_after.true))
          c.loop-other.invariant w.in_ok-push_beneath.ensures)
      | else-comes_after w ↦
          subst (λ (rs : List Row). AddsForms (flat_map g (filter test (range_with_len 0 (f + 1)))) c.args.rows.now.items rs)
          (sym (ap (λ v. v.items) w.rows-is))
          (adds_same _ _ _ _ (flat_left g test f (sym c.comes_after.ensures ∙ w.if-comes_after.false)) c.loop-other.invariant)
    ]
