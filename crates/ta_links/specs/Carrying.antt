-- New rows that are carried through a kept pivot.
use Rattle.std.specs.Prelude.{ℕ, ◌+◌, ◌-◌, ◌<◌, ◌≤◌, ◌≡◌, ◌≢◌, List, pos, map, length, get_or}
use Rattle.std.specs.List.{range_with_len}
use Rattle.ta_dense.specs.Tableau.{TableauRow}
use Rattle.ta_dense.specs.Kept.{KeptPivot, after_pivot, chosen_row}
use Rattle.ta_dense.specs.Merge.{RowsMergeBelow, FirstRefused}
use Rattle.ta_links.specs.declared.row_head.RowHead.{RowHead}
use Rattle.ta_links.specs.declared.linked_cells.LinkedCells.{LinkedCells}
use Rattle.ta_links.specs.Values.{value_in}
use Rattle.ta_links.specs.Gaps.{AreSound}
use Rattle.ta_links.specs.Linked.{no_head, AreProperHeads}
use Rattle.ta_links.specs.Merging.{row_in}

-- this many rows from a first one on
abbrev pub rows_from : List RowHead → LinkedCells → ℕ → ℕ → ℕ → List TableauRow
rows_from heads links columns first count = map (row_in heads links columns) (range_with_len first count)

-- the table in which rows are carried: it has one further row, after the others
pub record IsRoom (columns last : ℕ) (heads : List RowHead) (links : LinkedCells) : Type 0 where
  pub sound : AreSound links
  pub rows : length links.row_heads.items ≡ length heads
  pub columns_are : length links.column_heads.items ≡ columns
  pub proper : AreProperHeads heads
  pub long : length heads ≡ last + 1

-- the further row is empty
abbrev pub IsEmpty : ℕ → LinkedCells → Type 0
IsEmpty last links = (c : ℕ) → value_in links.cells.items last c ≡ pos 0

-- the further row has the numbers of a kept pivot's chosen row
pub record HasChosenNumbers (last : ℕ) (k : KeptPivot) (heads : List RowHead) (links : LinkedCells) : Type 0 where
  pub head : get_or heads last no_head ≡ record { basic = 0; denominator = k.denominator; constant = k.constant }
  pub numbers : (c : ℕ) → value_in links.cells.items last c ≡ get_or k.cells c (pos 0)

-- the other rows are unchanged
pub record OthersSame (last : ℕ) (heads : List RowHead) (old : LinkedCells) (heads' : List RowHead) (new : LinkedCells) : Type 0 where
  pub numbers : (i c : ℕ) → i ≢ last → value_in new.cells.items i c ≡ value_in old.cells.items i c
  pub heads_same : (i : ℕ) → i ≢ last → get_or heads' i no_head ≡ get_or heads i no_head

-- the rows before the first one are unchanged
pub record AreKeptBelow (first : ℕ) (heads : List RowHead) (old : LinkedCells) (heads' : List RowHead) (new : LinkedCells) : Type 0 where
  pub numbers : (i c : ℕ) → i < first → value_in new.cells.items i c ≡ value_in old.cells.items i c
  pub heads_same : (i : ℕ) → i < first → get_or heads' i no_head ≡ get_or heads i no_head

-- rows were carried through a pivot
pub record RowsCarried (columns first count : ℕ) (k : KeptPivot) (heads : List RowHead) (old : LinkedCells) (heads' : List RowHead) (new : LinkedCells) : Type 0
  where
    pub room : IsRoom columns (first + count) heads' new
    pub empty : IsEmpty (first + count) new
    pub kept : AreKeptBelow first heads old heads' new
    pub rows : rows_from heads' new columns first count ≡ after_pivot columns k (rows_from heads old columns first count)
    pub within : RowsMergeBelow k.column (chosen_row columns k) (rows_from heads old columns first count) count

-- the first of them that does not stay in range has this number
pub record CarryRefused (columns first count : ℕ) (k : KeptPivot) (heads : List RowHead) (old : LinkedCells) (at : ℕ) : Type 0 where
  pub low : first ≤ at
  pub refused : FirstRefused k.column (chosen_row columns k) (rows_from heads old columns first count) (at - first)
