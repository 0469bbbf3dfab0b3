use Rattle.ta_dense.proofs.Common.{◌≡◌, ◌+◌, take, map, widened, views, AreProper}
use Rattle.ta_dense.proofs.extending.widened_rows.Given as goal

abbrev pub invariant-loop-row : goal.invariant-loop-row
invariant-loop-row l = record {
  value : views l.wide.items ≡ map (widened l.unknowns l.new) (views (take l.row-index l.rows));
  proper : AreProper (l.unknowns + l.new) l.wide.items;
}
