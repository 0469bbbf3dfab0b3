use Rattle.ta_counter.proofs.Common.{PassedTo, StaysInRange, point_of, Row}
use Rattle.ta_counter.proofs.Holdings.{MaskBefore}
use Rattle.ta_counter.proofs.holding.mask_at.Given as goal

-- the mask names those of the earlier rows that hold, and the earlier rows stay in range
abbrev pub invariant-loop-number : goal.invariant-loop-number
invariant-loop-number l = record {
  mask : MaskBefore (point_of l.values) l.rows l.number l.mask;
  stay : PassedTo (λ j (row : Row). StaysInRange (point_of l.values) row.form.constant row.form.terms) l.rows l.number;
}
