-- The tokens of a text: always the longest that fits, with white space and comments between them.
use Rattle.std.specs.Prelude.{ℕ, ◌≡◌, ◌+◌, ◌==◌, ◌||◌, ◌&&◌, ◌⊎◌, Bool, true, false, List, [], ◌∷◌, ◌++◌, length}
use Rattle.std.specs.Char.{is_ascii_digit}
use Rattle.std.specs.List.{list_all}
use Rattle.std.specs.Prelude.{IsTrue}
use Rattle.ta_syntax.specs.Kinds.{is_white, is_lone, mark_bytes, kind_bytes, IsKind}
use Rattle.ta_base.specs.Bytes.{is_letter, is_word}
use Rattle.ta_syntax.specs.declared.tokens.Kind.{Kind}
use Rattle.ta_syntax.specs.declared.tokens.Kind.TheVariants as kind
use Rattle.ta_syntax.specs.declared.tokens.Mark.TheVariants as mark
use Rattle.ta_syntax.specs.declared.placed.Token.{Token}

-- whether a byte directly after the token would make it longer: after a word, a byte of a word
abbrev pub lengthens : Kind → ℕ → Bool
lengthens (kind.Name n) b = is_word b
lengthens (kind.Number d) b = is_ascii_digit b
lengthens (kind.Fixed mark.Plus) b = b == 61
lengthens (kind.Fixed mark.Minus) b = b == 62
lengthens (kind.Fixed mark.Less) b = b == 61
lengthens (kind.Fixed mark.More) b = b == 61
lengthens (kind.Fixed m) b = list_all is_word (mark_bytes m) && is_word b

-- the byte after the token, if there is one, does not make it longer
abbrev pub IsLongest : Kind → List ℕ → Type 0
IsLongest k [] = Unit {0}
IsLongest k (b ∷ bs) = lengthens k b ≡ false

-- White space and comments from here on, inside a comment or not; the last may end inside one.
abbrev pub IsSpace : Bool → Bool → List ℕ → Type 0
IsSpace last true [] = IsTrue last
IsSpace last false [] = Unit {0}
IsSpace last true (b ∷ bs) = ((b ≡ 10) × IsSpace last false bs) ⊎ ((b ≡ 10 → ⊥) × IsSpace last true bs)
IsSpace last false (b ∷ bs) = (IsTrue (is_white b) × IsSpace last false bs) ⊎ ((b ≡ 35) × IsSpace last true bs)

-- white space and whole comments
abbrev pub IsGap : List ℕ → Type 0
IsGap = IsSpace false false

-- the same before the end, where a comment needs no line feed
abbrev pub IsLastGap : List ℕ → Type 0
IsLastGap = IsSpace true false

-- The tokens in order, each after a gap and the longest that fits; and a fact about the bytes that are left, with their offset.
abbrev pub ScansTo : (ℕ → List ℕ → Type 0) → ℕ → List ℕ → List Token → Type 0
ScansTo end at bytes [] = end at bytes
ScansTo end at bytes (t ∷ ts) = (gap rest : List ℕ) × IsGap gap × (bytes ≡ gap ++ (kind_bytes t.kind ++ rest)) × (t.at ≡ at + length gap) × IsKind t.kind
    × IsLongest t.kind rest × ScansTo end (t.at + length (kind_bytes t.kind)) rest ts

-- the tokens of a text
abbrev pub AreTokens : List ℕ → List Token → Type 0
AreTokens bytes ts = ScansTo (λ at rest. IsLastGap rest) 0 bytes ts

-- a byte that stands alone or begins a sign, whatever comes after it; a byte 61 begins one only before another
abbrev pub begins_mark : List ℕ → Bool
begins_mark [] = false
begins_mark (b ∷ []) = is_lone b
begins_mark (b ∷ c ∷ bs) = is_lone b || (b == 61 && c == 61)

-- no token and no gap begins here
pub record IsRefusedHere (at : ℕ) (bytes : List ℕ) (refused : ℕ) : Type 0 where
  pub gap : List ℕ
  pub byte : ℕ
  pub rest : List ℕ
  pub split : bytes ≡ gap ++ byte ∷ rest
  pub is_gap : IsGap gap
  pub place : refused ≡ at + length gap
  pub no_gap : (is_white byte ≡ false) × (byte ≡ 35 → ⊥)
  pub no_token : (is_letter byte ≡ false) × (is_ascii_digit byte ≡ false) × (begins_mark (byte ∷ rest) ≡ false)

-- the first refused byte of a text
abbrev pub IsRefused : List ℕ → ℕ → Type 0
IsRefused bytes refused = (ts : List Token) × ScansTo (λ at rest. IsRefusedHere at rest refused) 0 bytes ts
