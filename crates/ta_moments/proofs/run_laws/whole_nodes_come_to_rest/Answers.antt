use Rattle.ta_moments.proofs.Resting.{whole_rests}
use Rattle.ta_moments.proofs.run_laws.whole_nodes_come_to_rest.Goals as goal

pub returns : goal.returns
returns c = whole_rests
