use Rattle.ta_rest.proofs.Going.{goes_on}
use Rattle.ta_rest.proofs.fair_laws.resting_runs_go_on.Goals as goal

pub returns : goal.returns
returns c = goes_on
