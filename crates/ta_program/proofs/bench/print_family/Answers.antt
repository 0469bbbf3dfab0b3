use Rattle.ta_program.proofs.Common.{◌≡◌, IfOk, subst, family_text}
use Rattle.ta_syntax.specs.Grammar.{PlainTree, file_kinds}
use Rattle.ta_syntax.specs.Printed.{printed}
use Rattle.ta_program.proofs.bench.print_family.Goals as goal

pub returns : goal.returns
unfolding family_text
returns c = subst (λ (t : PlainTree). IfOk c.print_tree-text.result (λ text. text ≡ printed (file_kinds t))) c.in_ok-tree.ensures c.print_tree-text.ensures
