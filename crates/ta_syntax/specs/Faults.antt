-- Parse errors: the first token with which a text leaves the grammar or its limits.
use Rattle.std.specs.Prelude.{ℕ, ◌≡◌, List, [], ◌∷◌, ◌++◌, length}
use Rattle.ta_base.specs.declared.limits.Limits.{Limits}
use Rattle.ta_syntax.specs.Grammar.{FileText}
use Rattle.ta_syntax.specs.Limits.{Counts, at_start, run, StaysWithin, IsDeep, IsMany}
use Rattle.ta_syntax.specs.Tokens.{AreTokens, IsRefused}
use Rattle.ta_syntax.specs.declared.tokens.Kind.{Kind}
use Rattle.ta_syntax.specs.declared.placed.Token.{Token}
use Rattle.ta_syntax.specs.declared.fault.FileFault.{FileFault}
use Rattle.ta_syntax.specs.declared.fault.FileFault.TheVariants as fault

-- the kinds of tokens, in order
abbrev pub kinds : List Token → List Kind
kinds [] = []
kinds (t ∷ ts) = t.kind ∷ kinds ts

-- `other` begins with the same token as `bad`, or ends where it ends
abbrev pub SameStart : List Kind → List Kind → Type 0
SameStart [] other = other ≡ []
SameStart (k ∷ ks) other = (more : List Kind) × (other ≡ k ∷ more)

-- `front` begins some text
abbrev pub Begins : (List Kind → Type 0) → List Kind → Type 0
Begins L front = (more : List Kind) × L (front ++ more)

-- with the first token of `bad`, `front` begins no text; if `bad` is empty, `front` is no text
abbrev pub Refuses : (List Kind → Type 0) → List Kind → List Kind → Type 0
Refuses L front bad = (other : List Kind) → SameStart bad other → L (front ++ other) → ⊥

-- the offset of the first token, or the end
abbrev pub offset_of : ℕ → List Token → ℕ
offset_of end [] = end
offset_of end (t ∷ ts) = t.at

-- The first wrong token: the tokens before it begin a text, and with it they begin none.
pub record IsWrong (l : Limits) (L : List Kind → Type 0) (c : Counts) (end : ℕ) (tokens : List Token) (at : ℕ) : Type 0 where
  pub front : List Token
  pub bad : List Token
  pub split : tokens ≡ front ++ bad
  pub place : at ≡ offset_of end bad
  pub begins : Begins L (kinds front)
  pub refused : Refuses L (kinds front) (kinds bad)
  pub within : StaysWithin l c (kinds front)

-- The first token past a limit, as `over` says of what was counted before it: with it the tokens still begin a text.
pub record IsPast (l : Limits) (over : Counts → Kind → Type 0) (L : List Kind → Type 0) (c : Counts) (tokens : List Token) (at : ℕ) : Type 0 where
  pub front : List Token
  pub first : Token
  pub bad : List Token
  pub split : tokens ≡ front ++ first ∷ bad
  pub place : at ≡ first.at
  pub begins : Begins L (kinds front ++ first.kind ∷ [])
  pub within : StaysWithin l c (kinds front)
  pub past : over (run l c (kinds front)) first.kind

-- why no text of the grammar was read
abbrev pub IsStopped : Limits → (List Kind → Type 0) → Counts → ℕ → List Token → FileFault → Type 0
IsStopped l L c end tokens fault.Memory = Unit {0}
IsStopped l L c end tokens (fault.Syntax at) = IsWrong l L c end tokens at
IsStopped l L c end tokens (fault.TooDeep at) = IsPast l IsDeep L c tokens at
IsStopped l L c end tokens (fault.TooMany at) = IsPast l (IsMany l) L c tokens at
IsStopped l L c end tokens _ = ⊥

-- the tokens of the text leave the grammar or its limits there
pub record FaultOfTokens (l : Limits) (bytes : List ℕ) (e : FileFault) : Type 0 where
  pub tokens : List Token
  pub are : AreTokens bytes tokens
  pub stopped : IsStopped l FileText at_start (length bytes) tokens e

-- The first error of a text's tokens or grammar: the first refused byte, otherwise the first token that is wrong or past a limit. "Out of
-- memory" is always allowed.
abbrev pub FirstGrammarFault : Limits → List ℕ → FileFault → Type 0
FirstGrammarFault l bytes fault.Memory = Unit {0}
FirstGrammarFault l bytes (fault.Byte at) = IsRefused bytes at
FirstGrammarFault l bytes (fault.Syntax at) = FaultOfTokens l bytes (fault.Syntax at)
FirstGrammarFault l bytes (fault.TooDeep at) = FaultOfTokens l bytes (fault.TooDeep at)
FirstGrammarFault l bytes (fault.TooMany at) = FaultOfTokens l bytes (fault.TooMany at)
FirstGrammarFault l bytes _ = ⊥
