use Rattle.ta_moment_tree.proofs.Common.{List, arith, ap, sym, subst, refl, Vector, SmallVector, vector_of, SmallMoments, MomentsSpeak, moments_of, plain_rows}
use Rattle.ta_moment_tree.proofs.Common.{AddsForms}
use Rattle.ta_moment_tree.specs.declared.moment.Moment.{Moment as Kept}
use Rattle.ta_moment_tree.proofs.Beginning.{vector_more_small}
use Rattle.ta_moment_tree.proofs.AddedFacts.{plain_known}
use Rattle.ta_moment_tree.proofs.facts.with_plain.Goals as goal

pub push_plain-requires-clause-end : goal.push_plain-requires-clause-end
push_plain-requires-clause-end c = subst (λ (v : Vector). SmallVector 3 v) (sym (ap vector_of c.as_slice-vector.ensures.value))
    (vector_more_small 1 3 _ (omega arith) c.requires.fits.small)

pub push_plain-requires-clause-moments : goal.push_plain-requires-clause-moments
push_plain-requires-clause-moments c = subst (λ (ms : List Kept). SmallMoments (moments_of ms)) (sym c.as_slice-known.ensures.value) c.requires.fits.moments

pub returns : goal.returns
returns c =
    let t = c.args.plan.now.task in
    let a = t.automaton.now in
    let p = t.pattern.now in
    let n = c.args.draft.unknowns in
    let end = ap vector_of c.as_slice-vector.ensures.value in
    let same = c.as_slice-known.ensures.value in
    let adds = c.in_ok-push_plain.ensures n (subst (λ (ms : List Kept). MomentsSpeak n (moments_of ms)) (sym same) c.requires.fits.moments_speak) in
    plain_known a p c.args.silent.now c.args.draft c.args.fact _ c.requires.plain refl refl refl
    (subst (λ (v : Vector). AddsForms (plain_rows a p c.args.silent.now n v (moments_of c.args.draft.moments.items) c.args.fact) c.args.draft.rows.items
    c.push_plain.new.rows.items) end
    (subst (λ (ms : List Kept). AddsForms (plain_rows a p c.args.silent.now n (vector_of c.as_slice-vector.result.now) (moments_of ms) c.args.fact)
    c.args.draft.rows.items c.push_plain.new.rows.items) same adds))
