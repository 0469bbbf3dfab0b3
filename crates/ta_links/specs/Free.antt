-- The chain of free cells, and what all chains keep.
use Rattle.std.specs.Prelude.{ℕ, ◌<◌, ◌≡◌, ◌≢◌, List, [], ◌∷◌, pos, length, Option, Some, None}
use Rattle.ta_linear.specs.Numbers.{InRange}
use Rattle.ta_links.specs.declared.cell.Cell.{Cell}
use Rattle.ta_links.specs.Chains.{cell_at, IsLive, along_rows, along_columns, IsChained}
use Rattle.std.specs.List.{AllByRecursion}

-- an index is not in a list
abbrev pub NotIn : ℕ → List ℕ → Type 0
NotIn i is = AllByRecursion (λ j. i ≢ j) is

-- the chain of free cells goes along `right` through these; it visits none of them twice, and all their values are 0
abbrev pub FreeVisits : List Cell → Option ℕ → List ℕ → Type 0
FreeVisits cells head [] = head ≡ None
FreeVisits cells head (i ∷ is) = (head ≡ Some i) × (i < length cells) × ((cell_at cells i).value ≡ pos 0) × NotIn i is
    × FreeVisits cells (cell_at cells i).right is

-- the chain of free cells visits exactly the cells that are not live, each of them once
pub record IsFree (cells : List Cell) (head : Option ℕ) : Type 0 where
  pub visited : List ℕ
  pub visits : FreeVisits cells head visited
  pub all : (i : ℕ) → i < length cells → NotIn i visited → (cell_at cells i).value ≢ pos 0

-- what linked cells keep
pub record AreLinked (cells : List Cell) (row_heads column_heads : List (Option ℕ)) (free_head : Option ℕ) : Type 0 where
  pub rows : IsChained along_rows cells row_heads
  pub columns : IsChained along_columns cells column_heads
  pub one : (i k : ℕ) → IsLive cells i → IsLive cells k → (cell_at cells i).row ≡ (cell_at cells k).row → (cell_at cells i).column ≡ (cell_at cells k).column
      → i ≡ k
  pub free : IsFree cells free_head
  pub fits : (i : ℕ) → IsLive cells i → InRange (cell_at cells i).value
