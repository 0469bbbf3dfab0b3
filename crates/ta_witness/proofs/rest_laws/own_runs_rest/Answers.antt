use Rattle.ta_witness.proofs.OwnRuns.{own_rest}
use Rattle.ta_witness.proofs.rest_laws.own_runs_rest.Goals as goal

pub returns : goal.returns
returns c = own_rest
