use Rattle.ta_links.proofs.Common.{◌≡◌, ◌≤◌, length, None, value_in, AreSound, RowsShow}
use Rattle.ta_links.proofs.starting.write_rows.Given as goal

abbrev pub invariant-loop-row : goal.invariant-loop-row
invariant-loop-row l = record {
  from : l.first ≤ l.row;
  sound : AreSound l.links;
  rows : length l.links.row_heads.items ≡ length l.fn.links.row_heads.items;
  columns : length l.links.column_heads.items ≡ length l.fn.links.column_heads.items;
  shows : RowsShow l.first (value_in l.fn.links.cells.items) l.list l.row (value_in l.links.cells.items);
  free : l.fn.links.free_head ≡ None → l.links.free_head ≡ None;
}
