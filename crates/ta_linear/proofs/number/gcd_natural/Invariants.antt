use Rattle.ta_linear.proofs.Common.{ℕ, ◌<◌, ◌^◌, IsGcd}
use Rattle.ta_linear.proofs.number.gcd_natural.Given as goal

-- a greatest common divisor of what is left is one of the given numbers
abbrev pub invariant-loop-y : goal.invariant-loop-y
invariant-loop-y l = ((g : ℕ) → IsGcd l.x l.y g → IsGcd l.fn.a l.fn.b g) × (l.x < 2 ^ 127) × (l.y < 2 ^ 127)

abbrev pub decreases-loop-y : goal.decreases-loop-y
decreases-loop-y l = l.y
