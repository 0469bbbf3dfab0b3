use Rattle.ta_verdict.proofs.SamplesMade.{found_sample, no_sample}
use Rattle.ta_verdict.proofs.sampling.sample_of.Goals as goal

pub returns-in-Sample : goal.returns-in-Sample
returns-in-Sample c = found_sample c.args.file.now c.args.nodes c.in-Sample.values (rw c.in-Sample.is at c.in_ok-values.ensures)

pub returns-in-Empty : goal.returns-in-Empty
returns-in-Empty c = no_sample c.args.file.now c.args.nodes (rw c.in-Empty.is at c.in_ok-values.ensures)
