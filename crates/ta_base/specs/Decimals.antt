-- Natural numbers in decimal, without leading zeros, below a limit.
use Rattle.std.specs.Prelude.{ℕ, ◌<◌, ◌≡◌, ◌==◌, Bool, true, false, List, [], ◌∷◌, ◌++◌, decimal}
use Rattle.std.specs.Char.{is_ascii_digit}
use Rattle.std.specs.Str.Parse.{AllDigits}

-- no digit stands first
abbrev pub BeginsNoDigit : List ℕ → Type 0
BeginsNoDigit [] = Unit {0}
BeginsNoDigit (b ∷ bs) = is_ascii_digit b ≡ false

-- the digits that stand first, and what stands after them
pub record DigitsAt (bytes ds rest : List ℕ) : Type 0 where
  pub split : bytes ≡ ds ++ rest
  pub digits : AllDigits 10 ds
  pub ends : BeginsNoDigit rest

-- no digits, or a zero in front of others
abbrev pub is_padded : List ℕ → Bool
is_padded [] = true
is_padded (c ∷ []) = false
is_padded (c ∷ d ∷ ds) = c == 48

-- a number below the limit stands first, with all digits that stand there
pub record DecimalAt (limit : ℕ) (bytes : List ℕ) (n : ℕ) (rest : List ℕ) : Type 0 where
  pub split : bytes ≡ decimal n ++ rest
  pub below : n < limit
  pub ends : BeginsNoDigit rest

-- no number below the limit stands first
abbrev pub NoDecimalAt : ℕ → List ℕ → Type 0
NoDecimalAt limit bytes = (n : ℕ) (rest : List ℕ) → DecimalAt limit bytes n rest → ⊥

-- the bytes are a number below the limit
pub record IsDecimal (limit : ℕ) (bytes : List ℕ) (n : ℕ) : Type 0 where
  pub text : bytes ≡ decimal n
  pub below : n < limit

-- the bytes are no number below the limit
abbrev pub NoDecimal : ℕ → List ℕ → Type 0
NoDecimal limit bytes = (n : ℕ) → IsDecimal limit bytes n → ⊥
