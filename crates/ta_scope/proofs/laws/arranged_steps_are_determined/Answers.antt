use Rattle.ta_scope.proofs.ArrangedOnce.{arranged_once}
use Rattle.ta_scope.proofs.laws.arranged_steps_are_determined.Goals as goal

pub returns : goal.returns
returns c = arranged_once
