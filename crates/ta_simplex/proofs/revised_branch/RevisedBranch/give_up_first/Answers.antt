use Rattle.ta_simplex.proofs.Common.{length}
use Rattle.ta_simplex.proofs.RevisedBranchLemmas.{revised_removed}
use Rattle.ta_simplex.proofs.revised_branch.RevisedBranch.give_up_first.Goals as goal

pub loop-self-preserved : goal.loop-self-preserved
loop-self-preserved c = λ rows branch.
    let inv = c.loop-self.invariant rows branch in
    record {
      systems = revised_removed rows (length rows) c.loop-self.self.systems.items c.remove-given_up.new.self.items c.remove-given_up.ensures.items inv.systems;
      short = inv.short;
    }
