use Rattle.ta_revised.proofs.Units.{IsRevised-first}
use Rattle.ta_revised.proofs.laws.slacks_are_revised.Goals as goal

pub returns : goal.returns
returns c = λ s. IsRevised-first s
