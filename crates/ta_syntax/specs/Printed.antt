-- How tokens are printed.
use Rattle.std.specs.Prelude.{ℕ, List, [], ◌∷◌, ◌++◌}
use Rattle.ta_syntax.specs.Kinds.{kind_bytes}
use Rattle.ta_syntax.specs.declared.tokens.Kind.{Kind}
use Rattle.ta_syntax.specs.declared.tokens.Kind.TheVariants as kind
use Rattle.ta_syntax.specs.declared.tokens.Mark.TheVariants as mark

-- what comes after a token: a line feed after ; { and }, otherwise a space
abbrev pub separator : Kind → ℕ
separator (kind.Fixed mark.Semicolon) = 10
separator (kind.Fixed mark.OpenBrace) = 10
separator (kind.Fixed mark.CloseBrace) = 10
separator _ = 32

-- The tokens, each with what comes after it. The last token of a file is ; or }, so a file ends with one line feed.
abbrev pub printed : List Kind → List ℕ
printed [] = []
printed (k ∷ ks) = kind_bytes k ++ separator k ∷ printed ks
