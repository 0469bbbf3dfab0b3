use Rattle.ta_revised.proofs.NegativeLeaves.{negatives_leave}
use Rattle.ta_revised.proofs.laws.negatives_leave.Goals as goal

pub returns : goal.returns
returns c = negatives_leave
