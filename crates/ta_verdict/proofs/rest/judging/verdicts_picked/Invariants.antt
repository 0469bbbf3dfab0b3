use Rattle.ta_verdict.proofs.rest.Common.{OwnVerdict, resting, rest_tree, JudgedSoFar}
use Rattle.ta_verdict.proofs.rest.judging.verdicts_picked.Given as goal

abbrev pub invariant-loop-pattern : goal.invariant-loop-pattern
invariant-loop-pattern g l =
    JudgedSoFar (OwnVerdict l.rest (resting l.budget l.silent)) (rest_tree l.rest.ending.file (resting l.budget l.silent)) l.rest.ending.file l.fn.pick l.end
    l.pattern l.verdicts.items (λ begun. g.T.Target.has begun l.fn.target l.fn.place) (λ begun. g.T.Target.has begun l.target l.place)
    (g.T.Target.wants l.fn.target) (g.T.Target.wants l.target)
