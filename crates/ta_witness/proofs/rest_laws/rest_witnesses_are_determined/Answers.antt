use Rattle.ta_witness.proofs.Once.{one_rest_witness}
use Rattle.ta_witness.proofs.rest_laws.rest_witnesses_are_determined.Goals as goal

pub returns : goal.returns
returns c = one_rest_witness
