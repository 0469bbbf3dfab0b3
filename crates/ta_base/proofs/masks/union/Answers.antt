use Rattle.ta_base.proofs.masks.union.Goals as goal
use Rattle.ta_base.proofs.Bits.{has_or}

pub returns : goal.returns
returns c = has_or c.args.mask c.args.other
