-- A sparse matrix: nonzero cells that are linked in chains, along rows and along columns.
use Rattle.std.specs.Prelude.{ℕ, ◌<◌, ◌≤◌, ◌≡◌, ◌≢◌, ◌⊎◌, List, pos, length, get_or, Option, Some, None}
use Rattle.ta_links.specs.declared.cell.Cell.{Cell}

abbrev pub no_cell : Cell
no_cell = record { row = 0; column = 0; value = pos 0; left = None; right = None; above = None; below = None }

abbrev pub cell_at : List Cell → ℕ → Cell
cell_at cells i = get_or cells i no_cell

-- the first cell of a line
abbrev pub head_at : List (Option ℕ) → ℕ → Option ℕ
head_at heads line = get_or heads line None

-- a live cell: its value is not 0
pub record IsLive (cells : List Cell) (i : ℕ) : Type 0 where
  pub inside : i < length cells
  pub value : (cell_at cells i).value ≢ pos 0

-- which lines chains go along: the line of a cell, its place in the line, and the cells before and after it
pub record Direction : Type 0 where
  pub line : Cell → ℕ
  pub place : Cell → ℕ
  pub before : Cell → Option ℕ
  pub after : Cell → Option ℕ

-- along each row by rising column
abbrev pub along_rows : Direction
along_rows = record { line = λ c. c.row; place = λ c. c.column; before = λ c. c.left; after = λ c. c.right }

-- along each column by rising row
abbrev pub along_columns : Direction
along_columns = record { line = λ c. c.column; place = λ c. c.row; before = λ c. c.above; after = λ c. c.below }

abbrev pub line_at : Direction → List Cell → ℕ → ℕ
line_at way cells i = way.line (cell_at cells i)

abbrev pub place_at : Direction → List Cell → ℕ → ℕ
place_at way cells i = way.place (cell_at cells i)

abbrev pub before_at : Direction → List Cell → ℕ → Option ℕ
before_at way cells i = way.before (cell_at cells i)

abbrev pub after_at : Direction → List Cell → ℕ → Option ℕ
after_at way cells i = way.after (cell_at cells i)

-- cell i is the first live cell of a line
pub record IsFirstCell (way : Direction) (cells : List Cell) (line i : ℕ) : Type 0 where
  pub live : IsLive cells i
  pub here : line_at way cells i ≡ line
  pub front : before_at way cells i ≡ None
  pub least : (k : ℕ) → IsLive cells k → line_at way cells k ≡ line → place_at way cells i ≤ place_at way cells k

-- cell j is the next live cell of cell i's line, and leads back to it
pub record FollowsCell (way : Direction) (cells : List Cell) (i j : ℕ) : Type 0 where
  pub live : IsLive cells j
  pub here : line_at way cells j ≡ line_at way cells i
  pub rises : place_at way cells i < place_at way cells j
  pub back : before_at way cells j ≡ Some i
  pub nothing_between : (k : ℕ) → IsLive cells k → line_at way cells k ≡ line_at way cells i → (place_at way cells k ≤ place_at way cells i)
      ⊎ (place_at way cells j ≤ place_at way cells k)

-- each line's chain visits exactly the live cells of the line by rising place: it begins with the first of them, leads from each to the
-- next, and ends with the last; the links back agree with the links forward
pub record IsChained (way : Direction) (cells : List Cell) (heads : List (Option ℕ)) : Type 0 where
  pub inside : (i : ℕ) → IsLive cells i → line_at way cells i < length heads
  pub empty : (line : ℕ) → head_at heads line ≡ None → (k : ℕ) → IsLive cells k → line_at way cells k ≢ line
  pub first : (line i : ℕ) → head_at heads line ≡ Some i → IsFirstCell way cells line i
  pub next : (i j : ℕ) → IsLive cells i → after_at way cells i ≡ Some j → FollowsCell way cells i j
  pub last : (i : ℕ) → IsLive cells i → after_at way cells i ≡ None → (k : ℕ) → IsLive cells k → line_at way cells k ≡ line_at way cells i
      → place_at way cells k ≤ place_at way cells i
  pub begins : (i : ℕ) → IsLive cells i → before_at way cells i ≡ None → head_at heads (line_at way cells i) ≡ Some i
  pub back : (i h : ℕ) → IsLive cells i → before_at way cells i ≡ Some h → IsLive cells h × (after_at way cells h ≡ Some i)
