use Rattle.ta_moments.proofs.Nodes.{settled_runs}
use Rattle.ta_moments.proofs.run_laws.settled_moments_become_runs.Goals as goal

pub returns : goal.returns
returns c = settled_runs
