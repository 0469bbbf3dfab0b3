use Rattle.ta_simplex.proofs.Common.{ℕ, ◌≡◌, length, Tableau, narrow_view, IsStuckAt}
use Rattle.ta_simplex.proofs.SlotLemmas.{Filled}
use Rattle.ta_simplex.proofs.revised_ends.revised_slots.Given as goal

abbrev pub invariant-loop-column : goal.invariant-loop-column
invariant-loop-column l = record {
  long : length l.multipliers.items ≡ length l.system.rows;
  filled : (t : Tableau) (row : ℕ) → IsStuckAt l.system l.dictionary (narrow_view l.chosen) t row
      → Filled l.system.unknowns (length l.system.rows) t row l.column l.multipliers.items;
}
