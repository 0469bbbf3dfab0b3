use Rattle.ta_encode.proofs.Common.{map, take, bound_row, AddsRows}
use Rattle.ta_encode.proofs.rows.push_bounds.Given as goal

abbrev pub invariant-loop-bound : goal.invariant-loop-bound
invariant-loop-bound l = AddsRows (map bound_row (take l.bound-index l.bounds)) l.unknowns l.fn.rows.items l.rows.items
