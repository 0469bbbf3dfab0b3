-- Walks that visit each nonzero cell of a line.
use Rattle.std.specs.Prelude.{ℕ, ◌<◌, ◌≤◌, ◌≡◌, List, ℤ, pos, Option, Some}
use Rattle.ta_links.specs.declared.cell.Cell.{Cell}
use Rattle.ta_links.specs.declared.way.Way.{Way}
use Rattle.ta_links.specs.declared.way.Way.TheVariants.{Rows, Columns}
use Rattle.ta_links.specs.Chains.{cell_at, IsLive, line_at, place_at}
use Rattle.ta_links.specs.Values.{value_in}
use Rattle.ta_links.specs.Links.{direction}
use Rattle.ta_links.specs.Gaps.{spot}

-- the number at a place of a line
abbrev pub line_value_at : Way → List Cell → ℕ → ℕ → ℤ
line_value_at Rows cells line place = value_in cells line place
line_value_at Columns cells line place = value_in cells place line

-- nothing, or a live cell of the line
pub record IsOn (way : Way) (cells : List Cell) (l h : ℕ) : Type 0 where
  pub live : IsLive cells h
  pub here : line_at (direction way) cells h ≡ l

abbrev pub MayBeOn : Way → List Cell → ℕ → Option ℕ → Type 0
MayBeOn way cells line before = (h : ℕ) → before ≡ Some h → IsOn way cells line h

-- the next live cell of a line: the numbers passed are 0, and its value is the number at its place
pub record IsNext (way : Way) (cells : List Cell) (l : ℕ) (before : Option ℕ) (j : ℕ) : Type 0 where
  pub on : IsOn way cells l j
  pub further : spot (direction way) cells before ≤ place_at (direction way) cells j
  pub passed : (p : ℕ) → spot (direction way) cells before ≤ p → p < place_at (direction way) cells j → line_value_at way cells l p ≡ pos 0
  pub value : line_value_at way cells l (place_at (direction way) cells j) ≡ (cell_at cells j).value

-- the remaining numbers of the line are 0
abbrev pub NoneLeft : Way → List Cell → ℕ → Option ℕ → Type 0
NoneLeft way cells line before = (p : ℕ) → spot (direction way) cells before ≤ p → line_value_at way cells line p ≡ pos 0
