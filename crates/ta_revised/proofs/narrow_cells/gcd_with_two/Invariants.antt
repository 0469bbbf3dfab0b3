use Rattle.ta_revised.proofs.Common.{◌≡◌, ◌<◌, drop, gcd_with}
use Rattle.ta_revised.proofs.narrow_cells.gcd_with_two.Given as goal

abbrev pub invariant-loop-cell : goal.invariant-loop-cell
invariant-loop-cell l = record {
  some : 0 < l.divisor;
  few : l.divisor < 3;
  value : gcd_with l.divisor (drop l.cell-index l.cells) ≡ gcd_with 2 l.cells;
}
