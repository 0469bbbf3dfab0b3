-- The numbers of a row that is merged with the chosen row of a pivot.
use Rattle.std.specs.Prelude.{ℕ, zero, suc, ◌+◌, ◌<◌, ◌≤◌, ◌≡◌, ◌≢◌, ◌⊎◌, List, length, get_or, ℤ, ◌*ℤ◌, ◌-ℤ◌, ◌==◌, unsigned_abs, if◌then◌else◌, pos, ◌<ℤ◌}
use Rattle.ta_linear.specs.Numbers.{InRange}
use Rattle.ta_linear.specs.Gcd.{gcd_of}
use Rattle.ta_dense.specs.Tableau.{TableauRow, merged, turned}
use Rattle.ta_dense.specs.Merge.{CombinesInRange, MergesInRange}
use Rattle.ta_links.specs.declared.row_head.RowHead.{RowHead}
use Rattle.ta_links.specs.declared.linked_cells.LinkedCells.{LinkedCells}
use Rattle.ta_links.specs.Values.{value_in, filled_places, filled_rows}
use Rattle.ta_links.specs.Gaps.{AreSound}
use Rattle.ta_links.specs.Linked.{table_row, no_head, AreProperHeads}

-- the number at a place: p times the row's minus q times the chosen row's, and in the column another
abbrev pub merged_cell : ℤ → ℤ → ℕ → ℤ → (ℕ → ℤ) → (ℕ → ℤ) → ℕ → ℤ
merged_cell p q column turned f g j = if j == column then turned else p *ℤ f j -ℤ q *ℤ g j

-- its products and its difference are in range
abbrev pub MergesAt : ℤ → ℤ → ℕ → (ℕ → ℤ) → (ℕ → ℤ) → ℕ → Type 0
MergesAt p q column f g j = j ≢ column → CombinesInRange p (f j) q (g j)

-- the numbers at a place leave the range
pub record RefusedAt (p q : ℤ) (column : ℕ) (f g : ℕ → ℤ) (columns : ℕ) : Type 0 where
  pub place : ℕ
  pub inside : place < columns
  pub refused : ¬ (MergesAt p q column f g place)

-- the greatest common divisor of a number and the first numbers of a row
abbrev pub gcd_below : ℕ → (ℕ → ℤ) → ℕ → ℕ
gcd_below g f zero = g
gcd_below g f (suc n) = gcd_of (gcd_below g f n) (unsigned_abs (f n))

-- the numbers of a head in a merge are in range
pub record HeadsMerge (p q : ℤ) (head chosen : RowHead) : Type 0 where
  pub denominator : InRange (p *ℤ head.denominator)
  pub constant : CombinesInRange p head.constant q chosen.constant
  pub turned : InRange (q *ℤ chosen.denominator)

-- what a merge makes of them
pub record MergedHead (p q : ℤ) (head chosen : RowHead) (t : ℤ × ℤ × ℤ) : Type 0 where
  pub within : HeadsMerge p q head chosen
  pub denominator : t.0 ≡ p *ℤ head.denominator
  pub constant : t.1 ≡ p *ℤ head.constant -ℤ q *ℤ chosen.constant
  pub turned : t.2 ≡ q *ℤ chosen.denominator

-- a row of a dictionary: its head and its cells
abbrev pub row_in : List RowHead → LinkedCells → ℕ → ℕ → TableauRow
row_in heads links columns row = table_row links.cells.items columns row (get_or heads row no_head)

-- one row was merged with another, and nothing else changed
pub record RowMerged (columns row at column : ℕ) (heads : List RowHead) (old : LinkedCells) (heads' : List RowHead) (new : LinkedCells) : Type 0 where
  pub sound : AreSound new
  pub row_heads : length new.row_heads.items ≡ length old.row_heads.items
  pub column_heads : length new.column_heads.items ≡ length old.column_heads.items
  pub long : length heads' ≡ length heads
  pub proper : AreProperHeads heads'
  pub others : (r c : ℕ) → r ≢ at → value_in new.cells.items r c ≡ value_in old.cells.items r c
  pub other_heads : (i : ℕ) → i ≢ at → get_or heads' i no_head ≡ get_or heads i no_head
  pub row_merged : row_in heads' new columns at ≡ merged column (row_in heads old columns row) (row_in heads old columns at)
  pub within : MergesInRange column (row_in heads old columns row) (row_in heads old columns at)
  pub held : length new.cells.items ≤ length old.cells.items + filled_places columns (value_in old.cells.items at) (value_in new.cells.items at)

-- the chosen row, and the rows before a first one, are spared
abbrev pub IsSpared : ℕ → ℕ → ℕ → Type 0
IsSpared first row i = (i < first) ⊎ (i ≡ row)

-- a row that is not spared was merged with the chosen one, and nothing else changed
pub record RowStepped (first columns row at column : ℕ) (heads : List RowHead) (old : LinkedCells) (heads' : List RowHead) (new : LinkedCells) : Type 0 where
  pub sound : AreSound new
  pub row_heads : length new.row_heads.items ≡ length old.row_heads.items
  pub column_heads : length new.column_heads.items ≡ length old.column_heads.items
  pub long : length heads' ≡ length heads
  pub proper : AreProperHeads heads'
  pub others : (r c : ℕ) → (r ≢ at) ⊎ IsSpared first row r → value_in new.cells.items r c ≡ value_in old.cells.items r c
  pub other_heads : (i : ℕ) → (i ≢ at) ⊎ IsSpared first row i → get_or heads' i no_head ≡ get_or heads i no_head
  pub row_merged : ¬ (IsSpared first row at) → row_in heads' new columns at ≡ merged column (row_in heads old columns row) (row_in heads old columns at)
  pub within : ¬ (IsSpared first row at) → MergesInRange column (row_in heads old columns row) (row_in heads old columns at)
  pub held : length new.cells.items ≤ length old.cells.items + filled_places columns (value_in old.cells.items at) (value_in new.cells.items at)

-- a row that is not spared does not stay in range
pub record MergeRefused (first columns row at column : ℕ) (heads : List RowHead) (old : LinkedCells) : Type 0 where
  pub apart : ¬ (IsSpared first row at)
  pub refused : ¬ (MergesInRange column (row_in heads old columns row) (row_in heads old columns at))

-- the rows before a place that are not spared were merged
pub record MergedBelow (first columns row column : ℕ) (heads : List RowHead) (old : LinkedCells) (place : ℕ) (heads' : List RowHead) (new : LinkedCells) : Type
    0 where
  pub sound : AreSound new
  pub row_heads : length new.row_heads.items ≡ length old.row_heads.items
  pub column_heads : length new.column_heads.items ≡ length old.column_heads.items
  pub long : length heads' ≡ length heads
  pub proper : AreProperHeads heads'
  pub rest : (i c : ℕ) → (place ≤ i) ⊎ IsSpared first row i → value_in new.cells.items i c ≡ value_in old.cells.items i c
  pub rest_heads : (i : ℕ) → (place ≤ i) ⊎ IsSpared first row i → get_or heads' i no_head ≡ get_or heads i no_head
  pub done : (i : ℕ) → i < place → ¬ (IsSpared first row i)
      → row_in heads' new columns i ≡ merged column (row_in heads old columns row) (row_in heads old columns i)
  pub within : (i : ℕ) → i < place → ¬ (IsSpared first row i) → MergesInRange column (row_in heads old columns row) (row_in heads old columns i)
  pub held : length new.cells.items ≤ length old.cells.items + filled_rows place columns (value_in old.cells.items) (value_in new.cells.items)

-- the chosen row was solved for the variable that enters, and nothing else changed
pub record RowTurned (columns row column entering : ℕ) (heads : List RowHead) (old : LinkedCells) (heads' : List RowHead) (new : LinkedCells) : Type 0 where
  pub sound : AreSound new
  pub row_heads : length new.row_heads.items ≡ length old.row_heads.items
  pub column_heads : length new.column_heads.items ≡ length old.column_heads.items
  pub long : length heads' ≡ length heads
  pub proper : AreProperHeads heads'
  pub others : (r c : ℕ) → r ≢ row → value_in new.cells.items r c ≡ value_in old.cells.items r c
  pub other_heads : (i : ℕ) → i ≢ row → get_or heads' i no_head ≡ get_or heads i no_head
  pub row_turned : row_in heads' new columns row ≡ turned entering column (row_in heads old columns row)
  pub held : length new.cells.items ≤ length old.cells.items + filled_places columns (value_in old.cells.items row) (value_in new.cells.items row)

-- two rows of a table of sound links, of which the first has a positive number in a column
pub record MayMerge (n r k j : ℕ) (heads : List RowHead) (links : LinkedCells) : Type 0 where
  pub sound : AreSound links
  pub columns : n ≡ length links.column_heads.items
  pub rows : length links.row_heads.items ≡ length heads
  pub proper : AreProperHeads heads
  pub row : r < length heads
  pub at : k < length heads
  pub column : j < n
  pub positive : pos 0 <ℤ value_in links.cells.items r j
