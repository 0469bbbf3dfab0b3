use Rattle.ta_witness.proofs.Witnesses.{witnesses_show}
use Rattle.ta_witness.proofs.laws.witnesses_show.Goals as goal

pub returns : goal.returns
returns c = witnesses_show
