use Rattle.ta_verdict.proofs.Common.{◌≡◌, ℕ, refl, subst, loops_pure, of_events, TreeIs, moments_of}
use Rattle.ta_verdict.proofs.MomentVerdicts.{moments_overflow, moments_safe, moments_spent}
use Rattle.ta_verdict.proofs.by_moments.moments_verdict.Goals as goal

pub returns-in-Refuted-clause-holds : goal.returns-in-Refuted-clause-holds
returns-in-Refuted-clause-holds c = λ p at.
    let s = c.args.scoped.now in
    moments_safe s.file c.args.pattern p at (loops_pure s.file.automaton s.in_scope) c.args.nodes c.requires.limit _ c.in-Refuted.count c.in-Refuted.leaves
    (rw c.in-Refuted.is at c.in_ok-count.ensures.ends of_events refl refl p at)

pub returns-in-Refuted-clause-drafted : goal.returns-in-Refuted-clause-drafted
returns-in-Refuted-clause-drafted c = λ p at nodes size.
    let file = c.args.scoped.now.file in
    let kept = rw c.in-Refuted.is at c.in_ok-count.ensures.ends of_events refl refl p at in
    let same : c.in-Refuted.count ≡ nodes = cc in
    (kept.nodes, subst (λ (n : ℕ). TreeIs (moments_of file.automaton p of_events) c.args.nodes kept.nodes n) same kept.is, kept.kept)

pub returns-in-Found-clause-holds : goal.returns-in-Found-clause-holds
returns-in-Found-clause-holds c = λ p at.
    let found = rw c.in-Found.is at c.in_ok-count.ensures.ends of_events refl refl p at in
    record { solution = found.found; node = found.node; is = found.shown }

pub returns-in-Spent-clause-holds : goal.returns-in-Spent-clause-holds
returns-in-Spent-clause-holds c = λ p at.
    moments_spent c.args.scoped.now.file c.args.pattern p c.args.nodes c.in-Spent.count
    (rw c.in-Spent.is at c.in_ok-count.ensures.ends of_events refl refl p at)

pub returns-in-Overflow-clause-holds : goal.returns-in-Overflow-clause-holds
returns-in-Overflow-clause-holds c = λ p at.
    moments_overflow c.args.scoped.now.file c.args.pattern p c.args.nodes c.in-Overflow.node c.in-Overflow.kind c.report_kind.result c.report_kind.ensures
    (rw c.in-Overflow.is at c.in_ok-count.ensures.ends of_events refl refl p at)
