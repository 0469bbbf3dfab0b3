use Rattle.ta_dense.proofs.Common.{◌≡◌, views, AreProper, carried, StayInRange}
use Rattle.ta_dense.proofs.extending.carry_rows.Given as goal

abbrev pub invariant-loop-pivot : goal.invariant-loop-pivot
invariant-loop-pivot l = record {
  value : views l.rows ≡ carried l.columns l.kept l.pivot (views l.initial.rows);
  within : StayInRange l.columns l.kept l.pivot (views l.initial.rows);
  proper : AreProper l.columns l.rows;
}
