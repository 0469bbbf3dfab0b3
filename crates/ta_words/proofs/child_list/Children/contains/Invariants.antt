use Rattle.ta_words.proofs.Common.{take, In}
use Rattle.ta_words.proofs.child_list.Children.contains.Given as goal

abbrev pub invariant-loop-child : goal.invariant-loop-child
invariant-loop-child l = ¬ In l.element (take l.child-index l.child-items)
