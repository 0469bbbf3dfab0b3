-- A dictionary of linked cells, as its callers see it.
use Rattle.std.specs.Prelude.{ℕ, suc, ◌+◌, ◌<◌, ◌≡◌, List, [], ◌∷◌, ℤ, pos, ◌<ℤ◌, length, get_or, Option}
use Rattle.ta_linear.specs.Numbers.{InRange}
use Rattle.ta_dense.specs.Tableau.{TableauRow, Tableau, row_of, cell_of}
use Rattle.ta_links.specs.declared.cell.Cell.{Cell}
use Rattle.ta_links.specs.declared.row_head.RowHead.{RowHead}
use Rattle.ta_links.specs.Free.{AreLinked}
use Rattle.ta_links.specs.Values.{value_in, row_values, fills}

-- what it means, and what it keeps
pub record Linked : Type 0 where
  pub tableau : Tableau
  pub cells : List Cell
  pub row_heads : List (Option ℕ)
  pub column_heads : List (Option ℕ)
  pub free_head : Option ℕ

abbrev pub no_head : RowHead
no_head = record { basic = 0; denominator = pos 1; constant = pos 0 }

-- a row: its head and the numbers of its cells
abbrev pub table_row : List Cell → ℕ → ℕ → RowHead → TableauRow
table_row cells columns row h = record { basic = h.basic; denominator = h.denominator; constant = h.constant; cells = row_values cells columns row }

-- the rows, the first of which has this number
abbrev pub table_rows : List Cell → ℕ → ℕ → List RowHead → List TableauRow
table_rows cells columns row [] = []
table_rows cells columns row (h ∷ hs) = table_row cells columns row h ∷ table_rows cells columns (suc row) hs

-- what a head keeps
pub record IsProperHead (h : RowHead) : Type 0 where
  pub positive : pos 0 <ℤ h.denominator
  pub denominator : InRange h.denominator
  pub constant : InRange h.constant

abbrev pub AreProperHeads : List RowHead → Type 0
AreProperHeads hs = (i : ℕ) → i < length hs → IsProperHead (get_or hs i no_head)

-- the chains visit exactly the cells that are not 0, each with its value, and every other cell is a free one
pub record IsKeptInChains (d : Linked) : Type 0 where
  pub linked : AreLinked d.cells d.row_heads d.column_heads d.free_head
  pub rows : length d.row_heads ≡ length d.tableau.rows
  pub columns : length d.column_heads ≡ length d.tableau.non_basic
  pub numbers : (i j : ℕ) → i < length d.tableau.rows → j < length d.tableau.non_basic → cell_of (row_of d.tableau i) j ≡ value_in d.cells i j

-- the numbers of a tableau's cells, by row and column
abbrev pub numbers_of : Tableau → ℕ → ℕ → ℤ
numbers_of t row column = cell_of (row_of t row) column

-- how many cells are not 0
abbrev pub live_count : List Cell → ℕ
live_count [] = 0
live_count (c ∷ cs) = fills (pos 0) c.value + live_count cs
