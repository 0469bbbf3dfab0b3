use Rattle.ta_revised.proofs.Common.{◌≡◌, ◌≤◌, ℕ, length, get_or, narrow_view, AreUnknownRows, unknown_rows, UnknownRow}
use Rattle.ta_revised.proofs.BasicLists.{ListedBelow}
use Rattle.ta_revised.proofs.UnknownRowSteps.{AfterBelow}
use Rattle.ta_revised.proofs.unknown_rows.merge_rows.Given as goal

abbrev pub invariant-loop-at : goal.invariant-loop-at
invariant-loop-at l = record {
  done : AfterBelow (length l.chosen.cells) l.column (narrow_view l.chosen) (unknown_rows (length l.chosen.cells) l.initial.rows)
      (unknown_rows (length l.chosen.cells) l.rows) l.at;
  rest : (k : ℕ) (d : UnknownRow) → l.at ≤ k → get_or l.rows k d ≡ get_or l.initial.rows k d;
  rows : AreUnknownRows (length l.chosen.cells) l.rows;
  basic : ListedBelow l.basic.items l.rows l.at;
}
