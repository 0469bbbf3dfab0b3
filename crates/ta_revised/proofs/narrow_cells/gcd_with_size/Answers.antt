use Rattle.ta_revised.proofs.Common.{IsGcd-swap, gcd_of_is}
use Rattle.ta_revised.proofs.Halves.{gcd_of-one_right}
use Rattle.ta_revised.proofs.narrow_cells.gcd_with_size.Goals as goal

pub returns-then-size-eq1 : goal.returns-then-size-eq1
returns-then-size-eq1 c = gcd_of-one_right c.args.divisor c.args.size c.if-size-eq1.true

pub returns-else-size-eq1 : goal.returns-else-size-eq1
returns-else-size-eq1 c = gcd_of_is _ _ _ (IsGcd-swap _ _ _ c.gcd_narrow.ensures)
