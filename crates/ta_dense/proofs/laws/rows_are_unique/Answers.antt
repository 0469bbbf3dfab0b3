use Rattle.ta_dense.specs.Slack.{IsAssignment, variables}
use Rattle.ta_dense.proofs.Unique.{unique_row}
use Rattle.ta_dense.proofs.laws.rows_are_unique.Goals as goal

pub returns : goal.returns
returns c = λ s t r r' d p p' same. unique_row (IsAssignment s) (variables s) t r r' d p p' same
