-- names of one letter
use Rattle.ta_automaton.proofs.Common.{◌≡◌, ℕ, [], ◌∷◌, arith, refl, IsTrue, no_sign, word_letter}
use Rattle.ta_syntax.specs.declared.tokens.Mark.{Mark}
use Rattle.ta_syntax.specs.declared.tokens.Mark.TheVariants as mark
use Rattle.ta_syntax.specs.Kinds.{mark_bytes}
use Rattle.ta_base.specs.Bytes.{is_letter}
use Rattle.ta_automaton.specs.Names.{Name}

no_mark : (b : ℕ) → IsTrue (is_letter b) → (m : Mark) → mark_bytes m ≡ (b ∷ []) → ⊥
no_mark b l mark.Semicolon e = no_sign b 59 l refl e
no_mark b l mark.Comma e = no_sign b 44 l refl e
no_mark b l mark.Colon e = no_sign b 58 l refl e
no_mark b l mark.OpenBrace e = no_sign b 123 l refl e
no_mark b l mark.CloseBrace e = no_sign b 125 l refl e
no_mark b l mark.Open e = no_sign b 40 l refl e
no_mark b l mark.Close e = no_sign b 41 l refl e
no_mark b l mark.Star e = no_sign b 42 l refl e
no_mark b l mark.Plus e = no_sign b 43 l refl e
no_mark b l mark.Minus e = no_sign b 45 l refl e
no_mark b l mark.Less e = no_sign b 60 l refl e
no_mark b l mark.More e = no_sign b 62 l refl e
no_mark b l _ e = cc

-- a letter is a name
pub letter_name : (b : ℕ) → IsTrue (is_letter b) → Name (b ∷ [])
letter_name b l = record {
  spelled = record { first = l; each = (word_letter b l, tt); free = no_mark b l };
  limit = omega arith;
}
