use Rattle.ta_moment_tree.proofs.Common.{sym}
use Rattle.ta_base.proofs.Bits.{has_above}
use Rattle.ta_moment_tree.proofs.plan.is_in.Goals as goal

pub returns-else-number-lt128 : goal.returns-else-number-lt128
returns-else-number-lt128 c = sym (has_above c.args.mask 128 c.args.number c.ranges.mask.fits c.if-number-lt128.false)
