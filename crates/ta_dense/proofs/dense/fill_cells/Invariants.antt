use Rattle.std.proofs.Common.{length, drop}
use Rattle.ta_dense.proofs.FillSteps.{Filling}
use Rattle.ta_dense.proofs.dense.fill_cells.Given as goal

abbrev pub invariant-loop-unknown : goal.invariant-loop-unknown
invariant-loop-unknown l = Filling (length l.initial.cells) l.terms (drop l.unknown-index l.terms) l.cells
