-- Reading one token: the longest that fits, after white space and comments.
use Rattle.std.specs.Prelude.{ℕ, ◌≡◌, ◌⊎◌, false, List, [], ◌∷◌, ◌++◌}
use Rattle.std.specs.Char.{is_ascii_digit}
use Rattle.std.specs.List.{AllByRecursion}
use Rattle.std.specs.Prelude.{IsTrue}
use Rattle.ta_syntax.specs.Kinds.{is_white, mark_bytes, kind_bytes, IsKind}
use Rattle.ta_base.specs.Bytes.{is_letter}
use Rattle.ta_syntax.specs.declared.tokens.Kind.{Kind}
use Rattle.ta_syntax.specs.declared.tokens.Kind.TheVariants as kind
use Rattle.ta_syntax.specs.declared.tokens.Mark.{Mark}
use Rattle.ta_syntax.specs.declared.fault.FileFault.{FileFault}
use Rattle.ta_syntax.specs.declared.fault.FileFault.TheVariants as fault
use Rattle.ta_syntax.specs.Tokens.{IsGap, IsLastGap, IsLongest, IsRefused, begins_mark}

-- the mark comes first, and is the longest that fits
abbrev pub MarkAt : List ℕ → Mark → List ℕ → Type 0
MarkAt bytes m rest = (bytes ≡ mark_bytes m ++ rest) × IsLongest (kind.Fixed m) rest

-- no white byte and no comment begins here
abbrev pub BeginsNoGap : List ℕ → Type 0
BeginsNoGap [] = Unit {0}
BeginsNoGap (b ∷ bs) = (is_white b ≡ false) × (b ≡ 35 → ⊥)

-- a comment's bytes up to its line feed, or to the end
abbrev pub SkipsComment : List ℕ → List ℕ → Type 0
SkipsComment bytes rest = (text : List ℕ) × AllByRecursion (λ b. b ≡ 10 → ⊥) text × ((bytes ≡ text ++ 10 ∷ rest) ⊎ ((bytes ≡ text) × (rest ≡ [])))

-- one white byte, or one comment, was skipped
abbrev pub SkipsPiece : List ℕ → List ℕ → Type 0
SkipsPiece [] rest = ⊥
SkipsPiece (b ∷ bs) rest = (IsTrue (is_white b) × (bs ≡ rest)) ⊎ ((b ≡ 35) × SkipsComment bs rest)

-- a gap; after an unfinished comment nothing but the end
abbrev pub SkipsGap : List ℕ → List ℕ → Type 0
SkipsGap bytes rest = (gap : List ℕ) × (bytes ≡ gap ++ rest) × (IsGap gap ⊎ (IsLastGap gap × (rest ≡ [])))

-- a digit stands first
abbrev pub BeginsByDigit : List ℕ → Type 0
BeginsByDigit [] = ⊥
BeginsByDigit (b ∷ bs) = IsTrue (is_ascii_digit b)

-- a token comes first, and is the longest that fits
pub record TokenFrom (bytes : List ℕ) (k : Kind) (rest : List ℕ) : Type 0 where
  pub split : bytes ≡ kind_bytes k ++ rest
  pub is : IsKind k
  pub longest : IsLongest k rest

-- no token begins here
abbrev pub NoToken : List ℕ → Type 0
NoToken [] = Unit {0}
NoToken (b ∷ bs) = (is_letter b ≡ false) × (is_ascii_digit b ≡ false) × (begins_mark (b ∷ bs) ≡ false)

-- why no token was read
abbrev pub TokenStops : ℕ → List ℕ → FileFault → Type 0
TokenStops at bytes fault.Memory = Unit {0}
TokenStops at bytes (fault.Byte k) = (k ≡ at) × NoToken bytes
TokenStops at bytes _ = ⊥

-- why a text has no tokens
abbrev pub ScanStops : List ℕ → FileFault → Type 0
ScanStops bytes fault.Memory = Unit {0}
ScanStops bytes (fault.Byte k) = IsRefused bytes k
ScanStops bytes _ = ⊥
