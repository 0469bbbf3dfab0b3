use Rattle.ta_dense.specs.Slack.{IsAssignment, variables}
use Rattle.ta_dense.proofs.Keeps.{IsDictionary-pivoted}
use Rattle.ta_dense.proofs.laws.pivots_keep_dictionaries.Goals as goal

pub returns : goal.returns
returns c = λ s t row column d h k p. IsDictionary-pivoted (IsAssignment s) (variables s) t row column d h k p
