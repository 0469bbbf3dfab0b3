use Rattle.ta_moments.proofs.Starting.{starts}
use Rattle.ta_moments.proofs.run_laws.starts_become_configurations.Goals as goal

pub returns : goal.returns
returns c = starts
