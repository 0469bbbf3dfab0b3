use Rattle.ta_farkas.proofs.Common.{ℕ, ◌<◌, ◌+◌, get_or, None}
use Rattle.ta_farkas.proofs.Sums.{Summed}
use Rattle.ta_farkas.proofs.block_sums.Given as goal

abbrev pub invariant-loop-row : goal.invariant-loop-row
invariant-loop-row l =
    (j : ℕ) → j < 64 → l.first + j < l.system.unknowns
    → Summed l.system l.multipliers (l.first + j) l.row-index (get_or l.sums j None)
