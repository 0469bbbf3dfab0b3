use Rattle.ta_dense.proofs.Common.{◌≡◌, range_with_len}
use Rattle.ta_dense.proofs.extending.first_columns.Given as goal

abbrev pub invariant-loop-unknown : goal.invariant-loop-unknown
invariant-loop-unknown l = l.columns.items ≡ range_with_len 0 l.unknown
