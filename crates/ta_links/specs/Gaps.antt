-- Where a place lies in a line: the cells before and after it.
use Rattle.std.specs.Prelude.{ℕ, suc, ◌<◌, ◌≤◌, ◌≡◌, List, Option, Some, None}
use Rattle.ta_links.specs.declared.cell.Cell.{Cell}
use Rattle.ta_links.specs.declared.linked_cells.LinkedCells.{LinkedCells}
use Rattle.ta_links.specs.Chains.{cell_at, IsLive, Direction, line_at, place_at}
use Rattle.ta_links.specs.Free.{AreLinked}
use Rattle.ta_links.specs.Links.{following}

-- nothing, or a live cell of the line before the place
pub record IsCellBefore (way : Direction) (cells : List Cell) (line place h : ℕ) : Type 0 where
  pub live : IsLive cells h
  pub here : line_at way cells h ≡ line
  pub low : place_at way cells h < place

abbrev pub MayBefore : Direction → List Cell → ℕ → ℕ → Option ℕ → Type 0
MayBefore way cells line place before = (h : ℕ) → before ≡ Some h → IsCellBefore way cells line place h

-- after it, no cell of the line is before the place
pub record IsSought (way : Direction) (cells : List Cell) (heads : List (Option ℕ)) (line place : ℕ) (before : Option ℕ) : Type 0 where
  pub may : MayBefore way cells line place before
  pub behind : (j : ℕ) → following way cells heads line before ≡ Some j → place ≤ place_at way cells j

-- and none is at the place
pub record IsEmptyPlace (way : Direction) (cells : List Cell) (heads : List (Option ℕ)) (line place : ℕ) (before : Option ℕ) : Type 0 where
  pub may : MayBefore way cells line place before
  pub behind : (j : ℕ) → following way cells heads line before ≡ Some j → place < place_at way cells j

abbrev pub AreSound : LinkedCells → Type 0
AreSound l = AreLinked l.cells.items l.row_heads.items l.column_heads.items l.free_head

-- a cell stays live and in its place
pub record Stays (cells new : List Cell) (k : ℕ) : Type 0 where
  pub live : IsLive new k
  pub row : (cell_at new k).row ≡ (cell_at cells k).row
  pub column : (cell_at new k).column ≡ (cell_at cells k).column

-- how far a walk along a line has come
abbrev pub spot : Direction → List Cell → Option ℕ → ℕ
spot way cells None = 0
spot way cells (Some k) = suc (place_at way cells k)

-- the live cell of a place
pub record IsAt (cells : List Cell) (r c i : ℕ) : Type 0 where
  pub live : IsLive cells i
  pub row : (cell_at cells i).row ≡ r
  pub column : (cell_at cells i).column ≡ c
