use Rattle.ta_linear.proofs.Farkas.{leaf_unsolved}
use Rattle.ta_linear.proofs.law.leaf_has_no_solution.Goals as goal

pub returns : goal.returns
returns c = leaf_unsolved
