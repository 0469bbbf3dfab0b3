use Rattle.ta_moments.proofs.Unasked.{nothing_left}
use Rattle.ta_moments.proofs.laws.no_question_leaves_nothing.Goals as goal

pub returns : goal.returns
returns c = nothing_left
