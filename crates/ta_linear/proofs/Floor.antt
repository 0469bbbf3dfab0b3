use Rattle.ta_linear.proofs.Common.{◌≡◌, arith, ℤ, pos, negsuc, ◌<ℤ◌, int_div_euclid, ints, InRange, div-le_self}

-- a quotient is no further from 0 than what is divided
pub floor_fits : (a b q : ℤ) → pos 0 <ℤ b → q ≡ int_div_euclid a b → InRange a → InRange q
floor_fits (pos a) (pos b) q h e f = rw e (omega (arith, ints, f, div-le_self a b))
floor_fits (negsuc a) (pos b) q h e f = rw e (omega (arith, ints, f, div-le_self a b))
floor_fits a (negsuc b) q h e f = absurd (omega (arith, ints, h))
