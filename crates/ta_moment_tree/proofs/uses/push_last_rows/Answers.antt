use Rattle.ta_moment_tree.proofs.Common.{pos, ◌∷◌, [], List, map, slice_get, arith, ap, sym, subst, UnknownForm, minus_form, negated_form, number_form}
use Rattle.ta_moment_tree.proofs.Common.{opposite_form, Vector, below, counters_at, guard_at, guards, VectorSpeaks, SmallVector, vector_of, AddsForms}
use Rattle.ta_moments.specs.Forms.{sum_form}
use Rattle.ta_moment_tree.proofs.Adding.{adds_both, adds_same}
use Rattle.ta_moment_tree.proofs.Beginning.{quiet_none, vector_more_small}
use Rattle.ta_moment_tree.proofs.uses.push_last_rows.Goals as goal

pub push_counters-requires-clause-vector : goal.push_counters-requires-clause-vector
push_counters-requires-clause-vector c = subst (λ (v : Vector). SmallVector 3 v) (sym (ap vector_of c.as_slice-before.ensures.value))
    (vector_more_small 2 3 _ (omega arith) c.requires.before)

pub push_guard-requires-clause-vector : goal.push_guard-requires-clause-vector
push_guard-requires-clause-vector c = subst (λ (v : Vector). SmallVector 3 v) (sym (ap vector_of c.as_slice-before.ensures.value))
    (vector_more_small 2 3 _ (omega arith) c.requires.before)

pub push_one_step-requires-clause-step : goal.push_one_step-requires-clause-step
push_one_step-requires-clause-step c = subst (λ (v : Vector). SmallVector 1 v) (sym (ap vector_of c.as_slice-step.ensures.value)) c.requires.step

pub push_counters-requires-2-clause-vector : goal.push_counters-requires-2-clause-vector
push_counters-requires-2-clause-vector c = subst (λ (v : Vector). SmallVector 3 v) (sym (ap vector_of c.as_slice-after.ensures.value)) c.requires.after

pub push_below-requires-clause-beneath : goal.push_below-requires-clause-beneath
push_below-requires-clause-beneath c = subst (λ (v : Vector). SmallVector 3 v) (sym (ap vector_of c.as_slice-after.ensures.value)) c.requires.after

pub push_below-requires-clause-above : goal.push_below-requires-clause-above
push_below-requires-clause-above c = vector_more_small 1 3 _ (omega arith) c.requires.end

pub push_failing-requires-clause-vector : goal.push_failing-requires-clause-vector
push_failing-requires-clause-vector c = vector_more_small 1 3 _ (omega arith) c.requires.end

pub returns : goal.returns
returns c n h k =
    let t = c.args.plan.now.task in
    let a = t.automaton.now in
    let p = t.pattern.now in
    let end = vector_of c.args.end.now in
    let before = ap vector_of c.as_slice-before.ensures.value in
    let step = ap vector_of c.as_slice-step.ensures.value in
    let after = ap vector_of c.as_slice-after.ensures.value in
    let rules = c.args.rules.now in
    let row = slice_get (guards a) c.args.guard in
    let steps : Vector → List UnknownForm = λ w. minus_form (sum_form w rules) (number_form (pos 1)) ∷ opposite_form
    (minus_form (sum_form w rules) (number_form (pos 1))) ∷ [] in
    adds_both _ _ _ _ _ (subst (λ (w : Vector). AddsForms (counters_at a p w) c.args.rows.now.items c.push_counters.new.rows.items) before
    c.in_ok-push_counters.ensures)
    (adds_both _ _ _ _ _ (subst (λ (w : Vector). AddsForms (map w rules) c.push_counters.new.rows.items c.push_each.new.rows.items) before
    c.in_ok-push_each.ensures)
    (adds_both _ _ _ _ _ (subst (λ (w : Vector). AddsForms (guard_at a p w row) c.push_each.new.rows.items c.push_guard.new.rows.items) before
    c.in_ok-push_guard.ensures)
    (adds_both _ _ _ _ _ (subst (λ (w : Vector). AddsForms (steps w) c.push_guard.new.rows.items c.push_one_step.new.rows.items) step
    c.in_ok-push_one_step.ensures)
    (adds_both _ _ _ _ _ (subst (λ (w : Vector). AddsForms (counters_at a p w) c.push_one_step.new.rows.items c.push_counters-2.new.rows.items) after
    c.in_ok-push_counters-2.ensures)
    (adds_both _ _ _ _ _ (subst (λ (w : Vector). AddsForms (below a p n w end) c.push_counters-2.new.rows.items c.push_below.new.rows.items) after
    (c.in_ok-push_below.ensures n (subst (λ (w : Vector). VectorSpeaks n w) (sym after) h) k))
    (adds_same _ _ _ _ (ap (map negated_form) (quiet_none a p end row)) c.in_ok-push_failing.ensures))))))
