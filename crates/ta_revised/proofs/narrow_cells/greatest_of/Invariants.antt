use Rattle.ta_revised.proofs.Common.{ℕ, ◌<◌, ◌≤◌, ◌^◌, get_or, pos, unsigned_abs, AreBounded}
use Rattle.ta_revised.proofs.narrow_cells.greatest_of.Given as goal

abbrev pub invariant-loop-cell : goal.invariant-loop-cell
invariant-loop-cell l = record {
  above : l.start ≤ l.greatest;
  below : l.greatest < 2 ^ 15;
  least : (b : ℕ) → l.start ≤ b → AreBounded b l.cells → l.greatest ≤ b;
  bound : (k : ℕ) → k < l.cell-index → unsigned_abs (get_or l.cells k (pos 0)) ≤ l.greatest;
}
