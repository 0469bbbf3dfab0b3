use Rattle.ta_moments.proofs.Solving.{solutions_meet}
use Rattle.ta_moments.proofs.laws.solutions_meet_nodes.Goals as goal

pub returns : goal.returns
returns c = solutions_meet
