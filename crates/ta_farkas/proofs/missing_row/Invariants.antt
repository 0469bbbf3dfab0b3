use Rattle.ta_farkas.proofs.Common.{ℕ, ◌<◌, length, row_at}
use Rattle.ta_farkas.proofs.missing_row.Given as goal

abbrev pub invariant-loop-row : goal.invariant-loop-row
invariant-loop-row l = (j : ℕ) → j < l.row-index → row_at l.multipliers j < length l.system.rows
