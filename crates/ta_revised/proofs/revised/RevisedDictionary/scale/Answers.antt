use Rattle.ta_revised.proofs.RevisedFacts.{always, dictionary_bound}
use Rattle.ta_revised.proofs.revised.RevisedDictionary.scale.Goals as goal

pub returns-clause-small : goal.returns-clause-small
returns-clause-small c = always c.scale_of.result _ (dictionary_bound c.self.inside c.args.self.now c.self.invariant c.self.view_is)
