-- Natural numbers in the text of a run.
use Rattle.std.specs.Prelude.{ℕ, ℤ, ◌≡◌, List}
use Rattle.std.specs.Fmt.{signed_decimal}
use Rattle.ta_counter.specs.Values.{Value}

-- the bytes are this number
pub record IsNumber (bytes : List ℕ) (value : ℤ) : Type 0 where
  pub number : Value value
  pub text : bytes ≡ signed_decimal value
