use Rattle.ta_encode.proofs.Samples.{samples_start, starts_sampled}
use Rattle.ta_encode.proofs.sample.samples_are_real.Goals as goal

pub returns-clause-start : goal.returns-clause-start
returns-clause-start c = samples_start

pub returns-clause-sampled : goal.returns-clause-sampled
returns-clause-sampled c = starts_sampled
