use Rattle.ta_simplex.proofs.DeterminedEnds.{ends_determined}
use Rattle.ta_simplex.proofs.laws.ends_are_determined.Goals as goal

pub returns : goal.returns
returns c = ends_determined
