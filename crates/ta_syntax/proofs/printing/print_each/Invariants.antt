use Rattle.ta_syntax.proofs.Common.{drop, string_bytes, each}
use Rattle.ta_syntax.proofs.PrintSteps.{Goes}
use Rattle.ta_syntax.proofs.printing.print_each.Given as goal

abbrev pub invariant-items : goal.invariant-items
invariant-items g l = Goes (string_bytes l.initial.text) (string_bytes l.text) (each g.T.Printed.spelled l.items)
    (each g.T.Printed.spelled (drop l.item-index l.items))
