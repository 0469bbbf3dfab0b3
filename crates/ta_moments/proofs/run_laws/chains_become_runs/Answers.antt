use Rattle.ta_moments.proofs.Segments.{chain_runs}
use Rattle.ta_moments.proofs.run_laws.chains_become_runs.Goals as goal

pub returns : goal.returns
returns c = chain_runs
