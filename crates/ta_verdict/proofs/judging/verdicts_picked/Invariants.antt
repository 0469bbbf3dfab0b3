use Rattle.ta_verdict.proofs.Common.{VerdictHolds, tree_under}
use Rattle.ta_verdict.proofs.JudgedSoFar.{JudgedSoFar}
use Rattle.ta_verdict.proofs.judging.verdicts_picked.Given as goal

abbrev pub invariant-loop-pattern : goal.invariant-loop-pattern
invariant-loop-pattern g l =
    JudgedSoFar (VerdictHolds l.scoped.file l.budget) (tree_under l.scoped.file l.budget) l.scoped.file l.fn.pick l.end l.pattern l.verdicts.items
    (λ begun. g.T.Target.has begun l.fn.target l.fn.place) (λ begun. g.T.Target.has begun l.target l.place) (g.T.Target.wants l.fn.target)
    (g.T.Target.wants l.target)
