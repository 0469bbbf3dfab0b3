-- Lists of the nonzero cells of a line.
use Rattle.std.specs.Prelude.{ℕ, ◌≡◌, List, ℤ, length, Option}
use Rattle.ta_linear.specs.Terms.{IsNormal, coefficient}
use Rattle.ta_links.specs.declared.linked_cells.LinkedCells.{LinkedCells}
use Rattle.ta_links.specs.declared.way.Way.{Way}
use Rattle.ta_links.specs.declared.way.Way.TheVariants.{Rows, Columns}
use Rattle.ta_links.specs.Lines.{line_value_at}

-- the heads of the lines along a way
abbrev pub heads_of : Way → LinkedCells → List (Option ℕ)
heads_of Rows l = l.row_heads.items
heads_of Columns l = l.column_heads.items

-- how many places such a line has
abbrev pub line_places : Way → LinkedCells → ℕ
line_places Rows l = length l.column_heads.items
line_places Columns l = length l.row_heads.items

-- a list names the places of a line whose numbers are not 0, by rising place, each with its number
pub record Lists (way : Way) (l : LinkedCells) (on : ℕ) (ts : List (ℕ × ℤ)) : Type 0 where
  pub normal : IsNormal 0 (line_places way l) ts
  pub numbers : (p : ℕ) → line_value_at way l.cells.items on p ≡ coefficient ts p
