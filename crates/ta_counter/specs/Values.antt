-- A value of a configuration: a natural number in range.
use Rattle.std.specs.Prelude.{ℤ, pos, ◌≤ℤ◌}
use Rattle.std.proofs.Props.{props}
use Rattle.ta_linear.specs.Numbers.{InRange}

-- a natural number in range
pub record Value (z : ℤ) : Type 0 where
  pub natural : pos 0 ≤ℤ z
  pub fits : InRange z

pub Value-prop : (z : ℤ) → IsProp (Value z)
Value-prop z = hlevel props
