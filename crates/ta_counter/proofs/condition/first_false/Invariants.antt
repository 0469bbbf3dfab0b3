use Rattle.ta_counter.proofs.Common.{PassedTo, point_of, Comparison, RowsPass}
use Rattle.ta_counter.proofs.condition.first_false.Given as goal

abbrev pub invariant-loop-number : goal.invariant-loop-number
invariant-loop-number l =
    PassedTo (λ j (comparison : Comparison). RowsPass (point_of l.values) comparison.rows) l.condition.comparisons l.number
