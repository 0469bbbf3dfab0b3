use Rattle.ta_base.proofs.masks.is_disjoint.Goals as goal
use Rattle.ta_base.proofs.Bits.{disjoint}

pub returns : goal.returns
returns c = disjoint c.args.part c.args.other
