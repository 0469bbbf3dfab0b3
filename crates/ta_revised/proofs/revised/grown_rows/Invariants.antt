use Rattle.ta_revised.proofs.Common.{◌≡◌, ◌-◌, map, take, zero_filled, AreUnknownRows, unknown_rows}
use Rattle.ta_revised.proofs.revised.grown_rows.Given as goal

abbrev pub invariant-loop-row : goal.invariant-loop-row
invariant-loop-row l = record {
  value : unknown_rows l.columns l.all.items ≡ map (zero_filled (l.columns - l.old)) (unknown_rows l.old (take l.row-index l.rows));
  rows : AreUnknownRows l.columns l.all.items;
}
