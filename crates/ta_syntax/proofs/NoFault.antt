-- A text of the grammar within the limits has no error.
use Rattle.ta_syntax.proofs.Common.{◌≡◌, ℕ, List, length, refl, sym, ap, subst, ◌∙◌, PlainTree, file_kinds, at_start, StaysWithin, IsDeep, IsMany, IsTreeWithin}
use Rattle.ta_syntax.proofs.Common.{AreTokens, kinds, FirstGrammarFault, plain_tree, IsTextOf, IsTreeOf, Tree, Token, FileFault, Limits}
use Rattle.ta_syntax.proofs.UniqueTokens.{tokens_unique, refused_no_tokens}
use Rattle.ta_syntax.proofs.UniqueTrees.{file_unique}
use Rattle.ta_syntax.proofs.Answered.{text_goes_on, not_past, tree_scan}
use Rattle.ta_syntax.specs.declared.fault.FileFault.TheVariants as fault

spelled_as : (bytes : List ℕ) (t : PlainTree) (ts : List Token) → IsTextOf bytes t → AreTokens bytes ts → kinds ts ≡ file_kinds t
spelled_as bytes t ts text are = ap kinds (tokens_unique bytes ts text.tokens are text.are) ∙ text.spelled

scanned : (l : Limits) (bytes : List ℕ) (t : PlainTree) (ts : List Token) → IsTextOf bytes t → IsTreeWithin l t → AreTokens bytes ts
    → StaysWithin l at_start (kinds ts)
scanned l bytes t ts text within are = subst (StaysWithin l at_start) (sym (spelled_as bytes t ts text are)) (tree_scan l t text.legal within)

pub no_fault : (l : Limits) (bytes : List ℕ) (t : PlainTree) (e : FileFault) → IsTextOf bytes t → IsTreeWithin l t → FirstGrammarFault l bytes e
    → e ≡ fault.Memory
no_fault l bytes t fault.Memory text within f = refl
no_fault l bytes t (fault.Byte at) text within f = absurd (refused_no_tokens bytes at text.tokens f text.are)
no_fault l bytes t (fault.Syntax at) text within f = absurd
    (text_goes_on l at_start (length bytes) at f.tokens (t, text.legal, sym (spelled_as bytes t f.tokens text f.are)) f.stopped)
no_fault l bytes t (fault.TooDeep at) text within f = absurd
    (not_past l IsDeep at_start f.tokens at (λ d k n. n.0) (scanned l bytes t f.tokens text within f.are) f.stopped)
no_fault l bytes t (fault.TooMany at) text within f = absurd
    (not_past l (IsMany l) at_start f.tokens at (λ d k n. n.1) (scanned l bytes t f.tokens text within f.are) f.stopped)
no_fault l bytes t _ text within f = absurd f

-- the tree of a text is unique
pub tree_alone : (l : Limits) (bytes : List ℕ) (t : Tree) (u : PlainTree) → IsTreeOf l bytes t → IsTextOf bytes u → u ≡ plain_tree t
tree_alone l bytes t u read text = file_unique u (plain_tree t) text.legal read.legal (sym (spelled_as bytes u read.tokens text read.are) ∙ read.spelled)
