use Rattle.ta_witness.proofs.Counting.{runs_short}
use Rattle.ta_witness.proofs.moment_laws.moment_runs_are_short.Goals as goal

pub returns : goal.returns
returns c = runs_short
