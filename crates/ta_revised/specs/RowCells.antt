-- Cells of a row of which the last ones may be zeros that are not stored.
use Rattle.std.specs.Prelude.{ℕ, List, ℤ, pos, ◌-◌, ◌++◌, ◌≤◌, length, replicate}
use Rattle.std.specs.Arc.{arc_value}
use Rattle.ta_revised.specs.declared.row_cells.RowCells.TheInside.{Inside}

-- numbers with zeros up to a count
abbrev pub zeros_behind : List ℤ → ℕ → List ℤ
zeros_behind xs count = xs ++ replicate (count - length xs) (pos 0)

-- the cells that the fields mean
abbrev pub cells_of : Inside → List ℤ
cells_of r = zeros_behind (arc_value r.stored).items r.count

-- what they keep
pub record IsSoundCells (r : Inside) : Type 0 where
  pub short : length (arc_value r.stored).items ≤ r.count
