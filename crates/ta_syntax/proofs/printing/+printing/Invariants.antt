use Rattle.ta_syntax.proofs.Common.{drop, zero, string_bytes}
use Rattle.ta_syntax.proofs.PrintSteps.{Goes, signed}
use Rattle.ta_syntax.proofs.printing.+printing.Given as goal

abbrev pub invariant-print_sum-terms : goal.invariant-print_sum-terms
invariant-print_sum-terms l = Goes (string_bytes l.initial.text) (string_bytes l.text) (signed zero l.term-items) (signed l.place (drop l.place l.term-items))
