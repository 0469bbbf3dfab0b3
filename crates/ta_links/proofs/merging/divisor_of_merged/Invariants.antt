use Rattle.ta_links.proofs.Common.{◌≡◌, ℕ, ◌<◌, ◌^◌, along_rows, MayBefore, value_in, merged_cell, MergesAt, gcd_below}
use Rattle.ta_links.proofs.merging.divisor_of_merged.Given as goal

abbrev pub invariant-loop-place : goal.invariant-loop-place
invariant-loop-place l = record {
  value : l.divisor ≡ gcd_below l.first
      (merged_cell l.merge.p l.merge.q l.merge.column l.merge.turned (value_in l.links.cells.items l.merge.at) (value_in l.links.cells.items l.merge.row))
      l.place;
  before_at : MayBefore along_rows l.links.cells.items l.merge.at l.place l.cursors.at;
  before_chosen : MayBefore along_rows l.links.cells.items l.merge.row l.place l.cursors.chosen;
  bound : l.divisor < 2 ^ 127;
  within : (j : ℕ) → j < l.place → MergesAt l.merge.p l.merge.q l.merge.column (value_in l.links.cells.items l.merge.at)
      (value_in l.links.cells.items l.merge.row) j;
}
