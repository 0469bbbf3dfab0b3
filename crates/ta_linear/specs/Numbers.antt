-- The range of the program's numbers.
use Rattle.std.specs.Prelude.{ℤ, unsigned_abs, ◌<◌, ◌^◌}

-- a number in the range: its absolute value is below 2^127
abbrev pub InRange : ℤ → Type 0
InRange z = unsigned_abs z < 2 ^ 127
