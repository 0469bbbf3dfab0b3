use Rattle.ta_rest.proofs.Moving.{moves_bounded}
use Rattle.ta_rest.proofs.laws.moves_are_bounded.Goals as goal

pub returns : goal.returns
returns c = moves_bounded
