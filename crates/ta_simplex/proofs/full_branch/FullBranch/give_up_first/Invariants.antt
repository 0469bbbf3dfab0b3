use Rattle.ta_simplex.proofs.Common.{List, vec_len, Row, IsFullBranch}
use Rattle.ta_simplex.proofs.full_branch.FullBranch.give_up_first.Given as goal

abbrev pub invariant-loop-self : goal.invariant-loop-self
invariant-loop-self g l = (rows : List Row) → IsFullBranch g.D.Dictionary.tableau g.D.Dictionary.pivot_of rows l.initial.self
    → IsFullBranch g.D.Dictionary.tableau g.D.Dictionary.pivot_of rows l.self

abbrev pub decreases-loop-self : goal.decreases-loop-self
decreases-loop-self g l = vec_len l.self.systems
