use Rattle.ta_simplex.proofs.Common.{map, length}
use Rattle.ta_simplex.proofs.FullBranchLemmas.{standing_removed}
use Rattle.ta_simplex.proofs.full_branch.FullBranch.give_up_first.Goals as goal

pub loop-self-preserved : goal.loop-self-preserved
loop-self-preserved g c = λ rows branch.
    standing_removed g.D.Dictionary.tableau (map g.D.Dictionary.pivot_of c.loop-self.self.kept.items) rows (length c.loop-self.self.kept.items) (length rows)
    c.loop-self.self.systems.items c.remove-given_up.new.self.items c.remove-given_up.ensures.items (c.loop-self.invariant rows branch)
