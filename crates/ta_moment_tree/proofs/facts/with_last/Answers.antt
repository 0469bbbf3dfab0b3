use Rattle.ta_moment_tree.proofs.Common.{◌∙◌, ◌+◌, length, arith, ap, sym, subst, refl, needing, sparing, Last, Pair, Vector, after_vector, before_vector}
use Rattle.ta_moment_tree.proofs.Common.{rows_of_last, VectorSpeaks, SmallVector, vector_of, AddsForms}
use Rattle.ta_moment_tree.proofs.Beginning.{needing_few, sparing_few}
use Rattle.ta_moment_tree.proofs.AddedFacts.{moment_known}
use Rattle.ta_moment_tree.proofs.facts.with_last.Goals as goal

pub push_last_use-requires-clause-end : goal.push_last_use-requires-clause-end
push_last_use-requires-clause-end c = subst (λ (v : Vector). SmallVector 1 v) (sym (ap vector_of c.as_slice-vector.ensures.value)) c.requires.fits.small

pub push_last_use-requires-clause-speaks : goal.push_last_use-requires-clause-speaks
push_last_use-requires-clause-speaks c = subst (λ (v : Vector). VectorSpeaks c.args.draft.unknowns v) (sym (ap vector_of c.as_slice-vector.ensures.value))
    c.requires.fits.speaks

pub overflow_add-result : goal.overflow_add-result
overflow_add-result c =
    let t = c.args.plan.now.task in
    let a = t.automaton.now in
    let few = sparing_few a t.pattern.now c.args.guard (sparing a t.pattern.now c.args.guard) refl in
    let more = needing_few a t.pattern.now c.args.guard (needing a t.pattern.now c.args.guard) refl in
    let same = c.in_ok-used.ensures.unknowns in
    let room = c.requires.room in
    omega arith

pub returns : goal.returns
returns c =
    let t = c.args.plan.now.task in
    let a = t.automaton.now in
    let p = t.pattern.now in
    let u = c.args.draft.unknowns in
    let g = c.args.guard in
    let before = vector_of c.args.draft.end.items in
    let end = ap vector_of c.as_slice-vector.ensures.value in
    moment_known a p c.args.silent.now c.args.draft (Last g) _ (length (sparing a p g) + length (needing a p g)) c.in_ok-used.used.moment
    (Pair (before_vector a p before u g) (after_vector a p before u g)) (rows_of_last a p before u g) refl
    (ap (λ n. u + n) c.in_ok-used.ensures.unknowns) refl c.in_ok-push.ensures.items
    (c.in_ok-used.ensures.moment ∙ ap (λ (v : Vector). Pair (before_vector a p v u g) (after_vector a p v u g)) end)
    (subst (λ (v : Vector). AddsForms (rows_of_last a p v u g) c.args.draft.rows.items c.push_last_use.new.rows.items) end c.in_ok-used.ensures.rows)
