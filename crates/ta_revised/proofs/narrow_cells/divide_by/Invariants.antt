use Rattle.ta_revised.proofs.Common.{◌≡◌, ◌++◌, map, take, drop, int_div}
use Rattle.ta_revised.proofs.narrow_cells.divide_by.Given as goal

abbrev pub invariant-loop-cell : goal.invariant-loop-cell
invariant-loop-cell l = l.cells ≡ map (λ z. int_div z l.divisor) (take l.cell-index l.initial.cells) ++ drop l.cell-index l.initial.cells
