use Rattle.ta_moments.proofs.Settling.{stand_apart}
use Rattle.ta_moments.proofs.run_laws.settled_moments_stand_apart.Goals as goal

pub returns : goal.returns
returns c = stand_apart
