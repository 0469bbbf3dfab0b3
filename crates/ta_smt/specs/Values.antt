-- The text of values, and its first bad line.
use Rattle.std.specs.Prelude.{ℕ, ℤ, ◌+◌, ◌≡◌, ◌≢◌, ◌⊎◌, List, [], ◌∷◌, ◌++◌, length, map}
use Rattle.std.specs.Fmt.{signed_decimal}
use Rattle.std.specs.List.{AllByRecursion}
use Rattle.ta_counter.specs.Values.{Value}
use Rattle.ta_replay.specs.Reading.{IsNumber}
use Rattle.ta_replay.specs.RunText.{lines_text}
use Rattle.ta_base.specs.Bytes.{Avoids}

-- a line for each value, with its line feed
abbrev pub values_text : List ℤ → List ℕ
values_text values = lines_text (map signed_decimal values)

-- the bytes are the text of values, each a natural number below 2^127
pub record IsValuesText (values : List ℤ) (bytes : List ℕ) : Type 0 where
  pub numbers : AllByRecursion Value values
  pub text : bytes ≡ values_text values

-- the first line is unfinished
pub record IsUnfinished (rest : List ℕ) : Type 0 where
  pub some : rest ≢ []
  pub no_feed : Avoids 10 rest

-- the first line is not a number
pub record IsNoNumber (rest : List ℕ) : Type 0 where
  pub line : List ℕ
  pub behind : List ℕ
  pub next : rest ≡ line ++ (10 ∷ behind)
  pub no_feed : Avoids 10 line
  pub other : (value : ℤ) → ¬ IsNumber line value

-- lines are counted from 1: those before this one are values, and it is not a value or is unfinished
pub record FirstBadLine (bytes : List ℕ) (number : ℕ) : Type 0 where
  pub values : List ℤ
  pub rest : List ℕ
  pub numbers : AllByRecursion Value values
  pub text : bytes ≡ values_text values ++ rest
  pub bad : IsUnfinished rest ⊎ IsNoNumber rest
  pub place : number ≡ length values + 1
