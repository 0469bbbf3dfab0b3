use Rattle.ta_base.proofs.masks.contains.Goals as goal
use Rattle.ta_base.proofs.Bits.{set_test}

pub returns-clause-bit : goal.returns-clause-bit
returns-clause-bit c = set_test 128 c.args.mask c.args.number c.requires
