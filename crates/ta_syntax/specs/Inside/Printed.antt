-- How tokens are printed.
use Rattle.std.specs.Prelude.{ℕ, zero, suc, ◌≡◌, List, [], ◌∷◌, ◌++◌}
use Rattle.ta_syntax.specs.declared.tokens.Kind.{Kind}
use Rattle.ta_syntax.specs.declared.tokens.Kind.TheVariants as kind
use Rattle.ta_syntax.specs.declared.tokens.Mark.TheVariants as mark
use Rattle.ta_syntax.specs.declared.sums.Sign.{Sign}
use Rattle.ta_syntax.specs.declared.sums.Sign.TheVariants as sign
use Rattle.ta_syntax.specs.Grammar.{PlainTree, sign_kind, listed, name_kinds, location_kinds}
use Rattle.ta_syntax.specs.Printed.{printed}

-- what was there before, and after it those tokens
abbrev pub Prints : List ℕ → List ℕ → List Kind → Type 0
Prints before after ks = after ≡ before ++ printed ks

-- the sign before the first term of a sum, which is not a plus
abbrev pub first_sign : Sign → List Kind
first_sign sign.Plus = []
first_sign sign.Minus = sign_kind sign.Minus ∷ []

-- the sign before the term at a place of a sum
abbrev pub sign_before : ℕ → Sign → List Kind
sign_before zero s = first_sign s
sign_before (suc n) s = sign_kind s ∷ []

-- the tokens of a file up to its locations
abbrev pub head_kinds : PlainTree → List Kind
head_kinds t =
    kind.Fixed mark.Automaton ∷ kind.Name t.name ∷ kind.Fixed mark.Semicolon
    ∷ kind.Fixed mark.Parameters ∷ (listed kind.Fixed name_kinds t.parameters ++ kind.Fixed mark.Semicolon
    ∷ kind.Fixed mark.Shared ∷ (listed kind.Fixed name_kinds t.shared ++ kind.Fixed mark.Semicolon
    ∷ kind.Fixed mark.Locations ∷ (listed kind.Fixed location_kinds t.locations ++ kind.Fixed mark.Semicolon ∷ [])))
