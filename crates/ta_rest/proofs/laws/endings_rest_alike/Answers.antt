use Rattle.ta_rest.proofs.EndingLaws.{endings_rest}
use Rattle.ta_rest.proofs.laws.endings_rest_alike.Goals as goal

pub returns : goal.returns
returns c = endings_rest
