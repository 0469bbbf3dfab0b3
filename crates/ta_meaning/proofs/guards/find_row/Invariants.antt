use Rattle.ta_meaning.proofs.Common.{ℕ, ◌<◌, SameAt}
use Rattle.ta_meaning.proofs.guards.find_row.Given as goal

abbrev pub invariant-loop-number : goal.invariant-loop-number
invariant-loop-number l = (n : ℕ) → n < l.number → ¬ SameAt l.rows l.row n
