use Rattle.ta_moment_tree.proofs.Common.{ℕ, ◌∙◌, List, length, arith, ap, sym, subst, Rule, minus_form, plus_form, Vector, nothing_fired, SmallVector}
use Rattle.ta_moment_tree.proofs.Common.{vector_of}
use Rattle.ta_moments.specs.Moments.{fresh}
use Rattle.ta_moment_tree.proofs.Beginning.{after_is, before_is, fresh_small, less_small, needing_below, needing_few, nothing_small}
use Rattle.ta_moment_tree.proofs.Beginning.{sparing_below, sparing_few, step_is, vector_more_small}
use Rattle.ta_moment_tree.proofs.uses.step_vectors.Goals as goal

pub overflow_cast-next : goal.overflow_cast-next
overflow_cast-next c =
    let t = c.args.plan.now.task in
    omega (arith, sparing_few t.automaton.now t.pattern.now c.args.guard c.args.others.now c.requires.others)

pub overflow_add-next : goal.overflow_add-next
overflow_add-next c =
    let t = c.args.plan.now.task in
    omega (arith, c.requires.few, sparing_few t.automaton.now t.pattern.now c.args.guard c.args.others.now c.requires.others)

pub fresh-requires-clause-numbers : goal.fresh-requires-clause-numbers
fresh-requires-clause-numbers c =
    let t = c.args.plan.now.task in
    omega (
      arith,
      c.requires.few,
      sparing_few t.automaton.now t.pattern.now c.args.guard c.args.others.now c.requires.others,
      needing_few t.automaton.now t.pattern.now c.args.guard c.args.chosen.now c.requires.chosen,
    )

pub fresh-requires-clause-rules : goal.fresh-requires-clause-rules
fresh-requires-clause-rules c =
    let t = c.args.plan.now.task in
    needing_below t.automaton.now t.pattern.now c.args.guard c.args.chosen.now (length c.as_slice-rules.result.now) c.requires.chosen
    (ap (λ (rs : List Rule). length rs) c.as_slice-rules.ensures)

pub fresh-requires-clause-above : goal.fresh-requires-clause-above
fresh-requires-clause-above c = nothing_small 3

pub fresh-requires-clause-beneath : goal.fresh-requires-clause-beneath
fresh-requires-clause-beneath c = nothing_small 3

pub fresh-requires-2-clause-numbers : goal.fresh-requires-2-clause-numbers
fresh-requires-2-clause-numbers c =
    let t = c.args.plan.now.task in
    omega (arith, c.requires.few, sparing_few t.automaton.now t.pattern.now c.args.guard c.args.others.now c.requires.others)

pub fresh-requires-2-clause-rules : goal.fresh-requires-2-clause-rules
fresh-requires-2-clause-rules c =
    let t = c.args.plan.now.task in
    sparing_below t.automaton.now t.pattern.now c.args.guard c.args.others.now (length c.as_slice-rules.result.now) c.requires.others
    (ap (λ (rs : List Rule). length rs) c.as_slice-rules.ensures)

pub fresh-requires-2-clause-above : goal.fresh-requires-2-clause-above
fresh-requires-2-clause-above c = vector_more_small 1 3 _ (omega arith) c.requires.end

pub fresh-requires-2-clause-beneath : goal.fresh-requires-2-clause-beneath
fresh-requires-2-clause-beneath c =
    subst (λ (v : Vector). SmallVector 3 v) (sym (ap vector_of c.as_slice-stepped.ensures.value ∙ c.in_ok-step.ensures.value))
    (fresh_small 3 _ c.args.chosen.now nothing_fired (omega arith) (nothing_small 3))

pub returns-clause-step : goal.returns-clause-step
returns-clause-step c =
    let t = c.args.plan.now.task in
    step_is t.automaton.now t.pattern.now c.args.unknowns c.args.guard c.args.others.now c.args.chosen.now _ c.requires.others c.requires.chosen
    c.in_ok-step.ensures.value

pub sums-requires-clause-left : goal.sums-requires-clause-left
sums-requires-clause-left c =
    let stepped : SmallVector 1 (vector_of c.as_slice-stepped.result.now) = subst (λ (v : Vector). SmallVector 1 v)
    (sym (ap vector_of c.as_slice-stepped.ensures.value ∙ c.in_ok-step.ensures.value))
    (fresh_small 1 _ c.args.chosen.now nothing_fired (omega arith) (nothing_small 1)) in
    subst (λ (v : Vector). SmallVector 3 v) (sym (ap vector_of c.as_slice-started.ensures.value ∙ c.in_ok-before.ensures.value))
    (vector_more_small 2 3 _ (omega arith)
    (fresh_small 2 _ c.args.others.now _ (omega arith)
    (less_small (vector_of c.args.end.now) (vector_of c.as_slice-stepped.result.now) c.requires.end stepped)))

pub sums-requires-clause-right : goal.sums-requires-clause-right
sums-requires-clause-right c =
    subst (λ (v : Vector). SmallVector 3 v) (sym (ap vector_of c.as_slice-stepped.ensures.value ∙ c.in_ok-step.ensures.value))
    (fresh_small 3 _ c.args.chosen.now nothing_fired (omega arith) (nothing_small 3))

pub returns-clause-before : goal.returns-clause-before
returns-clause-before c =
    let t = c.args.plan.now.task in
    let a = t.automaton.now in
    let p = t.pattern.now in
    let g = c.args.guard in
    let u = c.args.unknowns in
    let end = vector_of c.args.end.now in
    let step = step_is a p u g c.args.others.now c.args.chosen.now _ c.requires.others c.requires.chosen c.in_ok-step.ensures.value in
    before_is a p end u g c.args.others.now (vector_of c.in_ok-step.step.items) _ c.requires.others step
    (c.in_ok-before.ensures.value
    ∙ ap (λ (w : Vector). fresh u c.args.others.now (λ r. minus_form (end r) (w r))) (ap vector_of c.as_slice-stepped.ensures.value))

pub returns-clause-after : goal.returns-clause-after
returns-clause-after c =
    let t = c.args.plan.now.task in
    let a = t.automaton.now in
    let p = t.pattern.now in
    let stepped = ap vector_of c.as_slice-stepped.ensures.value in
    let started = ap vector_of c.as_slice-started.ensures.value in
    let after = c.in_ok-after.ensures.value ∙ ap (λ (w : Vector). (λ (r : ℕ). plus_form (w r) (vector_of c.as_slice-stepped.result.now r))) started
    ∙ ap (λ (w : Vector). (λ (r : ℕ). plus_form (vector_of c.in_ok-before.before.items r) (w r))) stepped in
    after_is a p (vector_of c.args.end.now) c.args.unknowns c.args.guard (vector_of c.in_ok-before.before.items) (vector_of c.in_ok-step.step.items) _
    (returns-clause-before c) (returns-clause-step c) after
