use Rattle.ta_walk.proofs.SamplesFound.{sample_small}
use Rattle.ta_walk.proofs.sample_tree.SampleTreeTree.encode.Goals as goal

pub returns-clause-small : goal.returns-clause-small
returns-clause-small c = sample_small c.args.self.now.file.now.automaton c.args.bounds.now c.in_ok-encoded.encoded.system c.in_ok-encoded.ensures.system
