use Rattle.ta_linear.proofs.Common.{ℤ, ◌*ℤ◌, FitsSigned, arith, w64, unsigned_abs-mul, mul-le-mul, fits_64_abs, InRange}

-- the product of two 64-bit numbers is in range
pub small_product : (a b : ℤ) → FitsSigned w64 a → FitsSigned w64 b → InRange (a *ℤ b)
small_product a b f g =
    rw (unsigned_abs-mul a b) (omega (arith, mul-le-mul (fits_64_abs a f) (fits_64_abs b g)))
