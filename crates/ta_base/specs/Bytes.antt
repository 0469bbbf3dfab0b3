-- Parts of a text, and the bytes of a name.
use Rattle.std.specs.Prelude.{ℕ, ◌≡◌, ◌≢◌, ◌==◌, ◌||◌, Bool, List, [], ◌∷◌, ◌++◌, IsTrue}
use Rattle.std.specs.Char.{is_ascii_alphabetic, is_ascii_digit}
use Rattle.std.specs.List.{AllByRecursion}

-- a byte does not occur
abbrev pub Avoids : ℕ → List ℕ → Type 0
Avoids byte bytes = AllByRecursion (λ b. b ≢ byte) bytes

-- the bytes before the first such byte, and those after it
pub record SplitAt (byte : ℕ) (bytes front behind : List ℕ) : Type 0 where
  pub split : bytes ≡ front ++ (byte ∷ behind)
  pub first : Avoids byte front

-- the bytes do not begin so
abbrev pub BeginsOtherwise : List ℕ → List ℕ → Type 0
BeginsOtherwise front bytes = (rest : List ℕ) → bytes ≡ front ++ rest → ⊥

-- a letter of ASCII, or `_`
abbrev pub is_letter : ℕ → Bool
is_letter b = is_ascii_alphabetic b || b == 95

-- a byte of a name after its first
abbrev pub is_word : ℕ → Bool
is_word b = is_letter b || is_ascii_digit b

-- a letter or `_` stands first
abbrev pub BeginsByLetter : List ℕ → Type 0
BeginsByLetter [] = ⊥
BeginsByLetter (b ∷ bs) = IsTrue (is_letter b)

-- a letter or `_`, then letters, digits and `_`; it may be a keyword, and of any length
pub record IsWord (name : List ℕ) : Type 0 where
  pub first : BeginsByLetter name
  pub each : AllByRecursion (λ b. IsTrue (is_word b)) name
