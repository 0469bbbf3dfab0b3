use Rattle.ta_revised.proofs.Common.{arith, IsGcd-from_mod, IsGcd-from_zero}
use Rattle.ta_revised.proofs.narrow_cells.+gcd_narrow.Goals as goal

pub returns-then-b-eq0 : goal.returns-then-b-eq0
returns-then-b-eq0 t c = IsGcd-from_zero c.args.a c.args.b (omega arith)

pub returns-else-b-eq0 : goal.returns-else-b-eq0
returns-else-b-eq0 t c = IsGcd-from_mod c.args.a c.args.b c.gcd_narrow.result c.gcd_narrow.ensures
