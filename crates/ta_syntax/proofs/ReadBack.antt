-- The printed text of a tree is of the grammar, with that tree.
use Rattle.ta_syntax.proofs.Common.{file_kinds, plain_tree, printed, IsTextOf, Tree}
use Rattle.ta_syntax.proofs.LegalTrees.{tree_legal}
use Rattle.ta_syntax.proofs.FileSpans.{file_legal}
use Rattle.ta_syntax.proofs.PrintedTokens.{tokens_printed}

pub text_of : (t : Tree) → IsTextOf (printed (file_kinds (plain_tree t))) (plain_tree t)
text_of t =
    let p = tokens_printed (file_kinds (plain_tree t)) (file_legal (plain_tree t) (tree_legal t)) in
    record { tokens = p.0; are = p.1; spelled = p.2; legal = tree_legal t }
