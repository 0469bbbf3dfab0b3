use Rattle.ta_moments.proofs.Certifying.{nodes_are_proofs}
use Rattle.ta_moments.proofs.laws.moment_nodes_are_proofs.Goals as goal

pub returns : goal.returns
returns c = nodes_are_proofs
