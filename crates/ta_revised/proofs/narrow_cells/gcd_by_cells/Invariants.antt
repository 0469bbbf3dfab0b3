use Rattle.ta_revised.proofs.Common.{◌≡◌, drop, gcd_with}
use Rattle.ta_revised.proofs.narrow_cells.gcd_by_cells.Given as goal

abbrev pub invariant-loop-cell : goal.invariant-loop-cell
invariant-loop-cell l = gcd_with l.divisor (drop l.cell-index l.cells) ≡ gcd_with l.start l.cells
