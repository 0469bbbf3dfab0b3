use Rattle.ta_simplex.proofs.Common.{List, vec_len, Row}
use Rattle.ta_simplex.specs.RevisedRuns.{IsRevisedBranch}
use Rattle.ta_simplex.proofs.revised_branch.RevisedBranch.give_up_first.Given as goal

abbrev pub invariant-loop-self : goal.invariant-loop-self
invariant-loop-self l = (rows : List Row) → IsRevisedBranch rows l.initial.self → IsRevisedBranch rows l.self

abbrev pub decreases-loop-self : goal.decreases-loop-self
decreases-loop-self l = vec_len l.self.systems
