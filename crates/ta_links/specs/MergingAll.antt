-- The first row of a pivot that does not stay in range.
use Rattle.std.specs.Prelude.{ℕ, ◌<◌, List}
use Rattle.ta_dense.specs.Merge.{MergesInRange}
use Rattle.ta_links.specs.declared.row_head.RowHead.{RowHead}
use Rattle.ta_links.specs.declared.linked_cells.LinkedCells.{LinkedCells}
use Rattle.ta_links.specs.Merging.{row_in, IsSpared, MergeRefused}

-- of the rows that are not spared
pub record RefusedFirst (first columns row column : ℕ) (heads : List RowHead) (old : LinkedCells) (rows k : ℕ) : Type 0 where
  pub inside : k < rows
  pub refused : MergeRefused first columns row k column heads old
  pub before : (i : ℕ) → i < k → ¬ (IsSpared first row i) → MergesInRange column (row_in heads old columns row) (row_in heads old columns i)
