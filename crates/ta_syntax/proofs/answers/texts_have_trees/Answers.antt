use Rattle.ta_syntax.proofs.BuiltTrees.{trees_exist}
use Rattle.ta_syntax.proofs.LegalTrees.{tree_within}
use Rattle.ta_syntax.proofs.TextTrees.{texts_have_trees}
use Rattle.ta_syntax.proofs.answers.texts_have_trees.Goals as goal

pub returns : goal.returns
returns c = record { exist = trees_exist; within = tree_within; texts = texts_have_trees }
