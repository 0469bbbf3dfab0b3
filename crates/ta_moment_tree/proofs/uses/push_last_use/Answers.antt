use Rattle.ta_moment_tree.proofs.Common.{◌∙◌, ◌+◌, List, ℕ, length, arith, ap, sym, subst, needing, sparing, Pair, Vector, before_vector, VectorSpeaks}
use Rattle.ta_moment_tree.proofs.Common.{vector_more, SmallVector, vector_of}
use Rattle.ta_moment_tree.specs.Rows.{last_rows}
use Rattle.ta_moment_tree.proofs.Adding.{adds_same}
use Rattle.ta_moment_tree.proofs.Beginning.{after_small, after_speaks, before_small, needing_few, step_small}
use Rattle.ta_moment_tree.proofs.uses.push_last_use.Goals as goal

pub step_vectors-requires-clause-others : goal.step_vectors-requires-clause-others
step_vectors-requires-clause-others c = c.as_slice-others.ensures.value ∙ c.in_ok-spared.ensures

pub step_vectors-requires-clause-chosen : goal.step_vectors-requires-clause-chosen
step_vectors-requires-clause-chosen c = c.as_slice-chosen.ensures.value ∙ c.in_ok-needed.ensures

pub push_last_rows-requires-clause-before : goal.push_last_rows-requires-clause-before
push_last_rows-requires-clause-before c =
    let t = c.args.plan.now.task in
    subst (λ (v : Vector). SmallVector 2 v) (sym c.in_ok-vectors.ensures.before)
    (before_small t.automaton.now t.pattern.now (vector_of c.args.end.now) c.args.unknowns c.args.guard c.requires.end)

pub push_last_rows-requires-clause-step : goal.push_last_rows-requires-clause-step
push_last_rows-requires-clause-step c =
    let t = c.args.plan.now.task in
    subst (λ (v : Vector). SmallVector 1 v) (sym c.in_ok-vectors.ensures.step) (step_small t.automaton.now t.pattern.now c.args.unknowns c.args.guard)

pub push_last_rows-requires-clause-after : goal.push_last_rows-requires-clause-after
push_last_rows-requires-clause-after c =
    let t = c.args.plan.now.task in
    subst (λ (v : Vector). SmallVector 3 v) (sym c.in_ok-vectors.ensures.after)
    (after_small t.automaton.now t.pattern.now (vector_of c.args.end.now) c.args.unknowns c.args.guard c.requires.end)

pub push_last_rows-requires-clause-few : goal.push_last_rows-requires-clause-few
push_last_rows-requires-clause-few c =
    let t = c.args.plan.now.task in
    needing_few t.automaton.now t.pattern.now c.args.guard c.as_slice-chosen.result.now (c.as_slice-chosen.ensures.value ∙ c.in_ok-needed.ensures)

pub returns-clause-unknowns : goal.returns-clause-unknowns
returns-clause-unknowns c =
    let t = c.args.plan.now.task in
    ap (λ (rs : List ℕ). length rs + length c.as_slice-chosen.result.now) (c.as_slice-others.ensures.value ∙ c.in_ok-spared.ensures)
    ∙ ap (λ (rs : List ℕ). length (sparing t.automaton.now t.pattern.now c.args.guard) + length rs) (c.as_slice-chosen.ensures.value ∙ c.in_ok-needed.ensures)

pub returns-clause-moment : goal.returns-clause-moment
returns-clause-moment c =
    let t = c.args.plan.now.task in
    ap (λ (v : Vector). Pair v (vector_of c.in_ok-vectors.vectors.after.items)) c.in_ok-vectors.ensures.before
    ∙ ap (Pair (before_vector t.automaton.now t.pattern.now (vector_of c.args.end.now) c.args.unknowns c.args.guard)) c.in_ok-vectors.ensures.after

pub returns-clause-rows : goal.returns-clause-rows
returns-clause-rows c =
    let t = c.args.plan.now.task in
    let a = t.automaton.now in
    let p = t.pattern.now in
    let g = c.args.guard in
    let u = c.args.unknowns in
    let end = vector_of c.args.end.now in
    let n = c.as_slice-chosen.ensures.value ∙ c.in_ok-needed.ensures in
    let s = c.in_ok-vectors.ensures.step in
    let b = c.in_ok-vectors.ensures.before in
    let f = c.in_ok-vectors.ensures.after in
    let m = u + length (sparing a p g) + length (needing a p g) in
    let speaks : VectorSpeaks m (vector_of c.in_ok-vectors.vectors.after.items) = subst (λ (v : Vector). VectorSpeaks m v) (sym f)
    (after_speaks a p end u g c.requires.speaks) in
    adds_same _ _ _ _ (λ i. last_rows a p m end (b i) (s i) (f i) g (n i))
    (c.in_ok-push_last_rows.ensures m speaks (vector_more u m end (omega arith) c.requires.speaks))
