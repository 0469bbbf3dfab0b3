use Rattle.ta_rest.proofs.Extending.{go_on_fairly}
use Rattle.ta_rest.proofs.fair_laws.runs_go_on_fairly.Goals as goal

pub returns : goal.returns
returns c = go_on_fairly
