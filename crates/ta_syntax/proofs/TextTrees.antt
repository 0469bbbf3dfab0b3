-- A text has a tree, or a first error of its tokens or its grammar.
use Rattle.ta_syntax.proofs.Common.{ℕ, ◌≤◌, List, length, ⊎_elim, sym, subst, FileText, at_start, StaysWithin, AreTokens, IsRefused, kinds, IsTextOf, Either}
use Rattle.ta_syntax.proofs.Common.{HasTree, HasGrammarFault, Token, Limits}
use Rattle.ta_syntax.proofs.LegalTrees.{file_fault}
use Rattle.ta_syntax.proofs.TextTokens.{texts_have_tokens}
use Rattle.ta_syntax.proofs.Answered.{tokens_have_answers, tree_limits}
use Rattle.ta_syntax.proofs.BuiltTrees.{trees_exist}
use Rattle.ta_syntax.specs.declared.fault.FileFault.TheVariants as fault

with_tree : (l : Limits) (bytes : List ℕ) (ts : List Token) → length bytes ≤ 4194304 → AreTokens bytes ts
    → FileText (kinds ts) × StaysWithin l at_start (kinds ts) → HasTree l bytes
with_tree l bytes ts small are (file, within) =
    let text : IsTextOf bytes file.0 = record { tokens = ts; are = are; spelled = sym file.2; legal = file.1 } in
    let b = trees_exist l bytes file.0 small text (tree_limits l file.0 file.1 (subst (StaysWithin l at_start) (sym file.2) within)) in
    (b.0, b.1)

pub texts_have_trees : (l : Limits) (bytes : List ℕ) → length bytes ≤ 4194304 → Either (HasTree l bytes) (HasGrammarFault l bytes)
texts_have_trees l bytes small no_tree no_fault =
    ⊎_elim
    (λ (h : (ts : List Token) × AreTokens bytes ts). tokens_have_answers l (length bytes) h.0
    (λ text. no_tree (with_tree l bytes h.0 small h.1 text))
    (λ stop. no_fault (stop.0, stop.1, file_fault l bytes h.0 stop.0 h.1 stop.2)))
    (λ (h : (refused : ℕ) × IsRefused bytes refused). no_fault (fault.Byte h.0, (λ e. cc), h.1))
    (texts_have_tokens bytes)
