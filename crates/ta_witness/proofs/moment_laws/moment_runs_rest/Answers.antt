use Rattle.ta_witness.proofs.MomentResting.{runs_rest}
use Rattle.ta_witness.proofs.moment_laws.moment_runs_rest.Goals as goal

pub returns : goal.returns
returns c = runs_rest
