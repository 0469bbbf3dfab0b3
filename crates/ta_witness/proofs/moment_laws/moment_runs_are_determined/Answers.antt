use Rattle.ta_witness.proofs.MomentOnce.{one_run}
use Rattle.ta_witness.proofs.moment_laws.moment_runs_are_determined.Goals as goal

pub returns : goal.returns
returns c = one_run
