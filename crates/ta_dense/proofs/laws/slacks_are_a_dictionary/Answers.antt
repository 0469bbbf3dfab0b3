use Rattle.ta_dense.proofs.SlackDictionary.{IsDictionary-slack}
use Rattle.ta_dense.proofs.laws.slacks_are_a_dictionary.Goals as goal

pub returns : goal.returns
returns c = λ s. IsDictionary-slack s
