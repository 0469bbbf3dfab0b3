use Rattle.ta_syntax.proofs.Common.{drop, string_bytes, further}
use Rattle.ta_syntax.proofs.PrintSteps.{Goes}
use Rattle.ta_syntax.specs.declared.tokens.Kind.TheVariants as kind
use Rattle.ta_syntax.proofs.printing.print_listed.Given as goal

abbrev pub invariant-items : goal.invariant-items
invariant-items g l = Goes (string_bytes l.initial.text) (string_bytes l.text) (further kind.Fixed g.T.Printed.spelled l.rest)
    (further kind.Fixed g.T.Printed.spelled (drop l.item-index l.rest))
