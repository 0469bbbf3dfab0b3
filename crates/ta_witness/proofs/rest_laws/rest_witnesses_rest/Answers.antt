use Rattle.ta_witness.proofs.Resting.{witnesses_rest}
use Rattle.ta_witness.proofs.rest_laws.rest_witnesses_rest.Goals as goal

pub returns : goal.returns
returns c = witnesses_rest
