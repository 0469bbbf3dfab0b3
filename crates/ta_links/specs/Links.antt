-- What writing links changes.
use Rattle.std.specs.Prelude.{ℕ, ℤ, List, [], ◌∷◌, ◌++◌, pos, set, length, Option, Some, None}
use Rattle.ta_links.specs.declared.cell.Cell.{Cell}
use Rattle.ta_links.specs.declared.way.Way.{Way}
use Rattle.ta_links.specs.declared.way.Way.TheVariants.{Rows, Columns}
use Rattle.ta_links.specs.Chains.{cell_at, head_at, after_at, Direction, along_rows, along_columns}

abbrev pub direction : Way → Direction
direction Rows = along_rows
direction Columns = along_columns

-- a cell with another link forward, and with another link back
abbrev pub with_after : Way → Option ℕ → Cell → Cell
with_after Rows to c = record c { right = to }
with_after Columns to c = record c { below = to }

abbrev pub with_before : Way → Option ℕ → Cell → Cell
with_before Rows to c = record c { left = to }
with_before Columns to c = record c { above = to }

-- the cells after a link of one of them, if any, was written
abbrev pub linked : (Option ℕ → Cell → Cell) → List Cell → Option ℕ → Option ℕ → List Cell
linked write cells None to = cells
linked write cells (Some k) to = set cells k (write to (cell_at cells k))

-- the heads after that of a line was written, if no cell comes before
abbrev pub headed : List (Option ℕ) → Option ℕ → ℕ → Option ℕ → List (Option ℕ)
headed heads None line to = set heads line to
headed heads (Some k) line to = heads

-- the cells after the link forward of the cell before a gap and the link back of the cell after it were written
abbrev pub spliced : Way → List Cell → Option ℕ → Option ℕ → Option ℕ → Option ℕ → List Cell
spliced way cells before after forward back = linked (with_before way) (linked (with_after way) cells before forward) after back

-- the cells after a value was written
abbrev pub with_value : ℤ → Cell → Cell
with_value value c = record { row = c.row; column = c.column; value = value; left = c.left; right = c.right; above = c.above; below = c.below }

abbrev pub valued : List Cell → ℕ → ℤ → List Cell
valued cells at value = set cells at (with_value value (cell_at cells at))

-- the cells after one was freed, and after one was taken
abbrev pub freed : List Cell → Option ℕ → ℕ → List Cell
freed cells head at = set cells at (record (cell_at cells at) { value = pos 0; right = head })

abbrev pub taken : List Cell → Option ℕ → Cell → List Cell
taken cells None cell = cells ++ cell ∷ []
taken cells (Some at) cell = set cells at cell

abbrev pub taken_at : List Cell → Option ℕ → ℕ
taken_at cells None = length cells
taken_at cells (Some at) = at

abbrev pub next_free : List Cell → Option ℕ → Option ℕ
next_free cells None = None
next_free cells (Some at) = (cell_at cells at).right

-- the cell after a gap in a line; the gap comes after a cell or at the line's beginning
abbrev pub following : Direction → List Cell → List (Option ℕ) → ℕ → Option ℕ → Option ℕ
following way cells heads line None = head_at heads line
following way cells heads line (Some k) = after_at way cells k
