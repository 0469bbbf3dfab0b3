use Rattle.ta_base.proofs.masks.is_subset.Goals as goal
use Rattle.ta_base.proofs.Bits.{subset}

pub returns : goal.returns
returns c = subset c.args.part c.args.whole
