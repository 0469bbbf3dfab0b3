-- The greatest common divisor of two natural numbers, by Euclid's recursion; that of 0 and 0 is 0. A lemma shows that every common divisor
-- divides it (IsGcd of std).
use Rattle.std.specs.Prelude.{ℕ, zero, suc, ◌%◌}

-- the last number that is not 0 of Euclid's remainders, within n steps
abbrev pub gcd_within : ℕ → ℕ → ℕ → ℕ
gcd_within zero a b = a
gcd_within (suc n) a zero = a
gcd_within (suc n) a (suc b) = gcd_within n (suc b) (a % suc b)

-- the greatest common divisor; that of 0 and 0 is 0
unfoldable pub gcd_of : ℕ → ℕ → ℕ
gcd_of a b = gcd_within (suc b) a b
