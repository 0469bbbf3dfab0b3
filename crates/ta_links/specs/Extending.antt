-- The rows of a longer system.
use Rattle.std.specs.Prelude.{ℕ, ◌+◌, ◌-◌, ◌≤◌, ◌≡◌, List}
use Rattle.ta_dense.specs.Kept.{KeptPivot, StayInRange, carried, chosen_row, kept_at}
use Rattle.ta_dense.specs.Merge.{FirstRefused}
use Rattle.ta_dense.specs.Extending.{raised}
use Rattle.ta_links.specs.declared.row_head.RowHead.{RowHead}
use Rattle.ta_links.specs.declared.linked_cells.LinkedCells.{LinkedCells}
use Rattle.ta_links.specs.Carrying.{AreKeptBelow, IsEmpty, IsRoom, rows_from}

-- the head of a row where there are more unknowns
abbrev pub raised_head : ℕ → ℕ → RowHead → RowHead
raised_head unknowns new h = record { basic = raised unknowns new h.basic; denominator = h.denominator; constant = h.constant }

-- rows were carried through the first j pivots, one after another
pub record AllCarried (columns first count : ℕ) (ks : List KeptPivot) (j : ℕ) (heads : List RowHead) (old : LinkedCells) (heads' : List RowHead)
    (new : LinkedCells) : Type 0 where
  pub room : IsRoom columns (first + count) heads' new
  pub empty : IsEmpty (first + count) new
  pub kept : AreKeptBelow first heads old heads' new
  pub rows : rows_from heads' new columns first count ≡ carried columns ks j (rows_from heads old columns first count)
  pub within : StayInRange columns ks j (rows_from heads old columns first count)

-- a pivot is the first in which one of them leaves the range, and this is the number of the first such row
pub record IsRefusal (columns first count : ℕ) (ks : List KeptPivot) (heads : List RowHead) (old : LinkedCells) (pivot row : ℕ) : Type 0 where
  pub before : StayInRange columns ks pivot (rows_from heads old columns first count)
  pub low : first ≤ row
  pub refused : FirstRefused (kept_at ks pivot).column (chosen_row columns (kept_at ks pivot))
      (carried columns ks pivot (rows_from heads old columns first count)) (row - first)
