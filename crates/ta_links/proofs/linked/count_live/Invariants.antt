use Rattle.ta_links.proofs.Common.{◌≡◌, ◌≤◌, ◌+◌, drop, live_count}
use Rattle.ta_links.proofs.linked.count_live.Given as goal

abbrev pub invariant-loop-cell : goal.invariant-loop-cell
invariant-loop-cell l = record {
  all : l.count + live_count (drop l.cell-index l.cells) ≡ live_count l.cells;
  few : l.count ≤ l.cell-index;
}
