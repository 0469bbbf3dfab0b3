use Rattle.ta_witness.proofs.Showing.{runs_show}
use Rattle.ta_witness.proofs.moment_laws.moment_runs_show.Goals as goal

pub returns : goal.returns
returns c = runs_show
