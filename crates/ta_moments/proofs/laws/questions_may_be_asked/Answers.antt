use Rattle.ta_moments.proofs.Questioning.{may_be_asked}
use Rattle.ta_moments.proofs.laws.questions_may_be_asked.Goals as goal

pub returns : goal.returns
returns c = may_be_asked
