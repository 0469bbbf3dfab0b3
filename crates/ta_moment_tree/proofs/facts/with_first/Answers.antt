use Rattle.ta_moment_tree.proofs.Common.{◌+◌, length, arith, ap, sym, subst, refl, sparing, First, Point, Vector, first_vector, rows_of_first, VectorSpeaks}
use Rattle.ta_moment_tree.proofs.Common.{SmallVector, vector_of, AddsForms}
use Rattle.ta_moment_tree.proofs.Beginning.{sparing_few}
use Rattle.ta_moment_tree.proofs.AddedFacts.{moment_known}
use Rattle.ta_moment_tree.proofs.facts.with_first.Goals as goal

pub push_first_use-requires-clause-end : goal.push_first_use-requires-clause-end
push_first_use-requires-clause-end c = subst (λ (v : Vector). SmallVector 1 v) (sym (ap vector_of c.as_slice-vector.ensures.value)) c.requires.fits.small

pub push_first_use-requires-clause-speaks : goal.push_first_use-requires-clause-speaks
push_first_use-requires-clause-speaks c = subst (λ (v : Vector). VectorSpeaks c.args.draft.unknowns v) (sym (ap vector_of c.as_slice-vector.ensures.value))
    c.requires.fits.speaks

pub overflow_add-result : goal.overflow_add-result
overflow_add-result c =
    let t = c.args.plan.now.task in
    let a = t.automaton.now in
    let few = sparing_few a t.pattern.now c.args.guard (sparing a t.pattern.now c.args.guard) refl in
    let same = c.in_ok-used.ensures.unknowns in
    let room = c.requires.room in
    omega arith

pub returns : goal.returns
returns c =
    let t = c.args.plan.now.task in
    let a = t.automaton.now in
    let p = t.pattern.now in
    let u = c.args.draft.unknowns in
    let end = ap vector_of c.as_slice-vector.ensures.value in
    moment_known a p c.args.silent.now c.args.draft (First c.args.guard) _ (length (sparing a p c.args.guard)) c.in_ok-used.used.moment
    (Point (first_vector a p u c.args.guard)) (rows_of_first a p (vector_of c.args.draft.end.items) u c.args.guard) refl
    (ap (λ n. u + n) c.in_ok-used.ensures.unknowns) refl c.in_ok-push.ensures.items c.in_ok-used.ensures.moment
    (subst (λ (v : Vector). AddsForms (rows_of_first a p v u c.args.guard) c.args.draft.rows.items c.push_first_use.new.rows.items) end
    c.in_ok-used.ensures.rows)
