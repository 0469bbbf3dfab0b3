use Rattle.ta_rest.proofs.Resting.{resting_solves}
use Rattle.ta_rest.proofs.laws.resting_runs_solve.Goals as goal

pub returns : goal.returns
returns c = resting_solves
