use Rattle.ta_walk.proofs.WordsSolved.{whole_solves}
use Rattle.ta_walk.proofs.laws.whole_nodes_solve.Goals as goal

pub returns : goal.returns
returns g c = whole_solves
