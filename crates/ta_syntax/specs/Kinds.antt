-- What a token is, in bytes.
use Rattle.std.specs.Prelude.{ℕ, ◌≡◌, ◌==◌, ◌||◌, Bool, List, [], ◌∷◌, codes}
use Rattle.std.specs.Char.{is_ascii_digit}
use Rattle.std.specs.List.{AllByRecursion}
use Rattle.std.specs.Prelude.{IsTrue}
use Rattle.std.proofs.Props.{props}
use Rattle.ta_base.specs.Bytes.{is_word, BeginsByLetter}
use Rattle.ta_syntax.specs.declared.tokens.Kind.{Kind}
use Rattle.ta_syntax.specs.declared.tokens.Kind.TheVariants as kind
use Rattle.ta_syntax.specs.declared.tokens.Mark.{Mark}
use Rattle.ta_syntax.specs.declared.tokens.Mark.TheVariants as mark

-- a blank, a tab, a line feed or a carriage return
abbrev pub is_white : ℕ → Bool
is_white b = b == 32 || b == 9 || b == 10 || b == 13

-- ; , : { } ( ) * + - < >
abbrev pub is_lone : ℕ → Bool
is_lone b = b == 59 || b == 44 || b == 58 || b == 123 || b == 125 || b == 40 || b == 41 || b == 42 || b == 43 || b == 45 || b == 60 || b == 62

-- how a sign or a keyword is written
abbrev pub mark_bytes : Mark → List ℕ
mark_bytes mark.Semicolon = codes ";"
mark_bytes mark.Comma = codes ","
mark_bytes mark.Colon = codes ":"
mark_bytes mark.OpenBrace = codes "{"
mark_bytes mark.CloseBrace = codes "}"
mark_bytes mark.Open = codes "("
mark_bytes mark.Close = codes ")"
mark_bytes mark.Star = codes "*"
mark_bytes mark.Plus = codes "+"
mark_bytes mark.Minus = codes "-"
mark_bytes mark.PlusEquals = codes "+="
mark_bytes mark.Arrow = codes "->"
mark_bytes mark.Less = codes "<"
mark_bytes mark.AtMost = codes "<="
mark_bytes mark.Equal = codes "=="
mark_bytes mark.AtLeast = codes ">="
mark_bytes mark.More = codes ">"
mark_bytes mark.Automaton = codes "automaton"
mark_bytes mark.Parameters = codes "parameters"
mark_bytes mark.Shared = codes "shared"
mark_bytes mark.Locations = codes "locations"
mark_bytes mark.Initial = codes "initial"
mark_bytes mark.Processes = codes "processes"
mark_bytes mark.Resilience = codes "resilience"
mark_bytes mark.Rule = codes "rule"
mark_bytes mark.When = codes "when"
mark_bytes mark.Do = codes "do"
mark_bytes mark.Pattern = codes "pattern"
mark_bytes mark.Start = codes "start"
mark_bytes mark.Empty = codes "empty"
mark_bytes mark.Event = codes "event"
mark_bytes mark.After = codes "after"

-- how a token is written
abbrev pub kind_bytes : Kind → List ℕ
kind_bytes (kind.Name n) = n
kind_bytes (kind.Number d) = d
kind_bytes (kind.Fixed m) = mark_bytes m

-- digits, at least one
abbrev pub IsDigits : List ℕ → Type 0
IsDigits [] = ⊥
IsDigits (b ∷ bs) = AllByRecursion (λ c. IsTrue (is_ascii_digit c)) (b ∷ bs)

-- a name that is not a keyword
pub record IsNameText (n : List ℕ) : Type 0 where
  pub first : BeginsByLetter n
  pub each : AllByRecursion (λ b. IsTrue (is_word b)) n
  pub free : (m : Mark) → mark_bytes m ≡ n → ⊥

-- a token that a text can have
abbrev pub IsKind : Kind → Type 0
IsKind (kind.Name n) = IsNameText n
IsKind (kind.Number d) = IsDigits d
IsKind (kind.Fixed m) = Unit {0}

all-prop : (p : ℕ → Bool) (bs : List ℕ) → IsProp (AllByRecursion (λ b. IsTrue (p b)) bs)
all-prop p [] = hlevel props
all-prop p (b ∷ bs) = hlevel (props, all-prop p bs)

letter-prop : (bs : List ℕ) → IsProp (BeginsByLetter bs)
letter-prop [] = hlevel props
letter-prop (b ∷ bs) = hlevel props

-- a proof that bytes are digits is unique
pub IsDigits-prop : (bs : List ℕ) → IsProp (IsDigits bs)
IsDigits-prop [] = hlevel props
IsDigits-prop (b ∷ bs) = all-prop is_ascii_digit (b ∷ bs)

-- a proof that bytes are a name is unique
pub IsNameText-prop : (n : List ℕ) → IsProp (IsNameText n)
IsNameText-prop n = hlevel (props, letter-prop n, all-prop is_word n)

-- a proof that a token can occur in a text is unique
pub IsKind-prop : (k : Kind) → IsProp (IsKind k)
IsKind-prop (kind.Name n) = IsNameText-prop n
IsKind-prop (kind.Number d) = IsDigits-prop d
IsKind-prop (kind.Fixed m) = hlevel props
