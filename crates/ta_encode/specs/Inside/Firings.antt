-- Counts and Singles by one function.
use Rattle.std.specs.Prelude.{ℕ, Bool, true, false}
use Rattle.ta_encode.specs.Unknowns.{Meaning, Count, Single}

abbrev pub firing : Bool → ℕ → ℕ → Meaning
firing true element rule = Single element rule
firing false element rule = Count element rule
