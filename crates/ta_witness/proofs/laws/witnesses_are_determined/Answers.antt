use Rattle.ta_witness.proofs.WitnessOnce.{one_witness}
use Rattle.ta_witness.proofs.laws.witnesses_are_determined.Goals as goal

pub returns : goal.returns
returns c = one_witness
