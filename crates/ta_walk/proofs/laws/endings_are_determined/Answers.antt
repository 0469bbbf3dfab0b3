use Rattle.ta_walk.proofs.DeterminedEnds.{endings_once}
use Rattle.ta_walk.proofs.laws.endings_are_determined.Goals as goal

pub returns : goal.returns
returns g c = endings_once
