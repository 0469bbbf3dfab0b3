use Rattle.ta_walk.proofs.SamplesFound.{sample_ends_once}
use Rattle.ta_walk.proofs.laws.sample_ends_are_determined.Goals as goal

pub returns : goal.returns
returns c = sample_ends_once
