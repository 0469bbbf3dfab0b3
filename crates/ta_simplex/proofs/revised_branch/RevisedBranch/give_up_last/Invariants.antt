use Rattle.ta_simplex.proofs.Common.{vec_len}
use Rattle.ta_simplex.specs.RevisedRuns.{SharesRevisedRows}
use Rattle.ta_simplex.proofs.revised_branch.RevisedBranch.give_up_last.Given as goal

abbrev pub invariant-loop-self : goal.invariant-loop-self
invariant-loop-self l = SharesRevisedRows l.self l.same l.system.rows

abbrev pub decreases-loop-self : goal.decreases-loop-self
decreases-loop-self l = vec_len l.self.systems
