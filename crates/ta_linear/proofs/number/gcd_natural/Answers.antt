use Rattle.ta_linear.proofs.Common.{◌<◌, ◌%◌, arith, mod_below, IsGcd-from_mod, IsGcd-from_zero}
use Rattle.ta_linear.proofs.number.gcd_natural.Goals as goal

pub loop-y-preserved : goal.loop-y-preserved
loop-y-preserved c =
    let below : c.loop-y.x % c.loop-y.y < c.loop-y.y = mod_below c.loop-y.x c.loop-y.y (omega arith) in
    (λ g h. c.loop-y.invariant.0 g (IsGcd-from_mod c.loop-y.x c.loop-y.y g h), c.loop-y.invariant.2, omega arith)

pub returns-clause-value : goal.returns-clause-value
returns-clause-value c = c.loop-y.invariant.0 _ (IsGcd-from_zero c.loop-y.x c.loop-y.y (omega arith))
