-- The rows after a pivot.
use Rattle.std.specs.Prelude.{ℕ, ◌+◌, ◌≤◌, ◌≡◌, List, length, get_or}
use Rattle.ta_dense.specs.Tableau.{TableauRow, no_row, pivoted_rows}
use Rattle.ta_dense.specs.Merge.{OthersMergeBelow}
use Rattle.ta_links.specs.declared.row_head.RowHead.{RowHead}
use Rattle.ta_links.specs.declared.linked_cells.LinkedCells.{LinkedCells}
use Rattle.ta_links.specs.Values.{value_in, filled_rows}
use Rattle.ta_links.specs.Gaps.{AreSound}
use Rattle.ta_links.specs.Linked.{table_rows, AreProperHeads}

-- the rows of heads and their cells
abbrev pub rows_in : List RowHead → LinkedCells → ℕ → List TableauRow
rows_in heads links columns = table_rows links.cells.items columns 0 heads

-- they are those after the pivot
pub record RowsPivoted (columns row column entering : ℕ) (heads : List RowHead) (old : LinkedCells) (heads' : List RowHead) (new : LinkedCells) : Type 0 where
  pub sound : AreSound new
  pub row_heads : length new.row_heads.items ≡ length old.row_heads.items
  pub column_heads : length new.column_heads.items ≡ length old.column_heads.items
  pub long : length heads' ≡ length heads
  pub proper : AreProperHeads heads'
  pub rows_are : rows_in heads' new columns ≡ pivoted_rows (rows_in heads old columns) row column entering
  pub within : OthersMergeBelow row column (get_or (rows_in heads old columns) row no_row) (rows_in heads old columns) (length (rows_in heads old columns))
  pub held : length new.cells.items ≤ length old.cells.items + filled_rows (length heads) columns (value_in old.cells.items) (value_in new.cells.items)
