-- The tree of a text.
use Rattle.std.specs.Prelude.{ℕ, ◌≡◌, List}
use Rattle.ta_base.specs.declared.limits.Limits.{Limits}
use Rattle.ta_syntax.specs.Grammar.{PlainTree, IsTree, file_kinds}
use Rattle.ta_syntax.specs.Limits.{IsTreeWithin}
use Rattle.ta_syntax.specs.PlainTrees.{plain_tree}
use Rattle.ta_syntax.specs.Stated.{IsPlaced, tree_stated}
use Rattle.ta_syntax.specs.Tokens.{AreTokens}
use Rattle.ta_syntax.specs.Faults.{kinds}
use Rattle.ta_syntax.specs.declared.placed.Token.{Token}
use Rattle.ta_syntax.specs.declared.tree.Tree.{Tree}

-- the text is of the grammar, with that tree
pub record IsTextOf (bytes : List ℕ) (t : PlainTree) : Type 0 where
  pub tokens : List Token
  pub are : AreTokens bytes tokens
  pub spelled : kinds tokens ≡ file_kinds t
  pub legal : IsTree t

-- The tokens of the text are those of the tree, at the offsets that it states, and it is a tree of the grammar within the limits.
pub record IsTreeOf (l : Limits) (bytes : List ℕ) (t : Tree) : Type 0 where
  pub tokens : List Token
  pub are : AreTokens bytes tokens
  pub spelled : kinds tokens ≡ file_kinds (plain_tree t)
  pub placed : IsPlaced (tree_stated t) tokens
  pub legal : IsTree (plain_tree t)
  pub within : IsTreeWithin l (plain_tree t)
