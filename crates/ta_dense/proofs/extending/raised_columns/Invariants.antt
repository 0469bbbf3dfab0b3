use Rattle.ta_dense.proofs.Common.{◌≡◌, ◌++◌, map, range_with_len, raised}
use Rattle.ta_dense.proofs.extending.raised_columns.Given as goal

abbrev pub invariant-loop-unknown : goal.invariant-loop-unknown
invariant-loop-unknown l = l.columns.items ≡ map (raised l.unknowns l.new) l.non_basic ++ range_with_len l.unknowns l.unknown
