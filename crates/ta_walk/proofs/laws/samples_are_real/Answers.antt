use Rattle.ta_walk.proofs.SamplesFound.{samples_real}
use Rattle.ta_walk.proofs.laws.samples_are_real.Goals as goal

pub returns : goal.returns
returns c = samples_real
