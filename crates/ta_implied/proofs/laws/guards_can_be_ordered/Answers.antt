use Rattle.ta_implied.proofs.Ordering.{ordered}
use Rattle.ta_implied.proofs.laws.guards_can_be_ordered.Goals as goal

pub returns : goal.returns
returns c = ordered
