-- Terms whose coefficients are a function of what the unknowns mean.
use Rattle.std.specs.Prelude.{ℕ, ℤ, pos, ◌<◌, ◌≡◌, List, get_or, map}
use Rattle.ta_linear.specs.Terms.{IsNormal, coefficient}

-- terms of the first n unknowns whose coefficients are a function of the meanings
pub record Sparse {M : Type 0} (f : M → ℤ) (ms : List M) (n : ℕ) (ts : List (ℕ × ℤ)) : Type 0 where
  pub normal : IsNormal 0 n ts
  pub coefficients : (u : ℕ) → u < n → coefficient ts u ≡ get_or (map f ms) u (pos 0)
