use Rattle.ta_walk.proofs.SpentSplits.{spent_needs_splits}
use Rattle.ta_walk.proofs.laws.spent_needs_splits.Goals as goal

pub returns : goal.returns
returns c = spent_needs_splits
