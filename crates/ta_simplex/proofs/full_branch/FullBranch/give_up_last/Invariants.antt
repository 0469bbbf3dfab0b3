use Rattle.ta_simplex.proofs.Common.{vec_len, SharesFullRows}
use Rattle.ta_simplex.proofs.full_branch.FullBranch.give_up_last.Given as goal

abbrev pub invariant-loop-self : goal.invariant-loop-self
invariant-loop-self g l = SharesFullRows g.D.Dictionary.tableau g.D.Dictionary.pivot_of l.self l.same l.system.rows

abbrev pub decreases-loop-self : goal.decreases-loop-self
decreases-loop-self g l = vec_len l.self.systems
