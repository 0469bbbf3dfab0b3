use Rattle.ta_walk.proofs.DeterminedEnds.{ends_once}
use Rattle.ta_walk.proofs.laws.ends_are_determined.Goals as goal

pub returns : goal.returns
returns c = ends_once
