use Rattle.ta_revised.proofs.Common.{◌≡◌, ◌-◌, ◌++◌, AreUnknownRows, unknown_rows, unit_rows}
use Rattle.ta_revised.proofs.revised.push_units.Given as goal

abbrev pub invariant-loop-unknown : goal.invariant-loop-unknown
invariant-loop-unknown l = record {
  value : unknown_rows l.columns l.rows.items ≡ unknown_rows l.columns l.initial.rows.items ++ unit_rows l.columns l.first (l.unknown - l.first);
  rows : AreUnknownRows l.columns l.rows.items;
}
