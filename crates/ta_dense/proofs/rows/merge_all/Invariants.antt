use Rattle.ta_dense.proofs.Common.{◌≡◌, ℕ, ◌<◌, ◌≤◌, length, get_or, merged, no_row, RowsMergeBelow, row_view, views, AreProper}
use Rattle.ta_dense.proofs.rows.merge_all.Given as goal

abbrev pub invariant-loop-at : goal.invariant-loop-at
invariant-loop-at l = record {
  done : (k : ℕ) → k < l.at → get_or (views l.rows) k no_row ≡ merged l.column (row_view l.chosen) (get_or (views l.initial.rows) k no_row);
  rest : (k : ℕ) → l.at ≤ k → get_or (views l.rows) k no_row ≡ get_or (views l.initial.rows) k no_row;
  in_range : RowsMergeBelow l.column (row_view l.chosen) (views l.initial.rows) l.at;
  proper : AreProper (length l.chosen.cells.items) l.rows;
}
