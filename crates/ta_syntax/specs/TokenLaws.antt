-- A text has at most one list of tokens, and printed tokens are read back.
use Rattle.std.specs.Prelude.{ℕ, ◌≡◌, List}
use Rattle.std.specs.List.{AllByRecursion}
use Rattle.ta_syntax.specs.Kinds.{IsKind}
use Rattle.ta_syntax.specs.Tokens.{AreTokens, IsRefused}
use Rattle.ta_syntax.specs.Faults.{kinds}
use Rattle.ta_syntax.specs.Grammar.{PlainTree, IsTree, file_kinds}
use Rattle.ta_syntax.specs.Printed.{printed}
use Rattle.ta_syntax.specs.declared.tokens.Kind.{Kind}
use Rattle.ta_syntax.specs.declared.placed.Token.{Token}

-- a text has at most one list of tokens
abbrev pub TokensAreUnique : Type 0
TokensAreUnique = (bytes : List ℕ) (ts us : List Token) → AreTokens bytes ts → AreTokens bytes us → ts ≡ us

-- a text has at most one first refused byte
abbrev pub RefusedIsUnique : Type 0
RefusedIsUnique = (bytes : List ℕ) (a b : ℕ) → IsRefused bytes a → IsRefused bytes b → a ≡ b

-- a text with a refused byte has no tokens
abbrev pub RefusedHasNoTokens : Type 0
RefusedHasNoTokens = (bytes : List ℕ) (a : ℕ) (ts : List Token) → IsRefused bytes a → AreTokens bytes ts → ⊥

-- every list of legal kinds is that of the tokens of its printed text
abbrev pub PrintedHasTokens : Type 0
PrintedHasTokens = (ks : List Kind) → AllByRecursion IsKind ks → (ts : List Token) × AreTokens (printed ks) ts × (kinds ts ≡ ks)

-- the tokens of a tree of the grammar are of legal kinds
abbrev pub TreesAreLegal : Type 0
TreesAreLegal = (t : PlainTree) → IsTree t → AllByRecursion IsKind (file_kinds t)
