use Rattle.worked_rows.proofs.Common.{◌≡◌, ◌+◌, ◌*◌, length, AllBelow}
use Rattle.worked_rows.proofs.towers.tower.Given as goal

abbrev pub invariant-loop-lower : goal.invariant-loop-lower
invariant-loop-lower l = record {
  below : AllBelow l.unknowns l.rows.items;
  long : length l.rows.items ≡ 2 * l.lower + 1;
}
