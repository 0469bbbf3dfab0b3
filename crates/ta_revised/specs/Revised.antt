-- A dictionary of the rows of the unknowns: what its fields mean, and what they keep.
use Rattle.std.specs.Prelude.{ℕ, ◌<◌, ◌^◌, ◌-◌, ◌++◌, List, map, length}
use Rattle.std.specs.List.{range_with_len}
use Rattle.ta_dense.specs.Tableau.{Tableau, TableauRow}
use Rattle.ta_dense.specs.Extending.{raised}
use Rattle.ta_dense.specs.Inside.Padded.{zero_filled}
use Rattle.ta_revised.specs.UnknownRows.{unit_row, unknown_rows, AreUnknownRows, ListsBasic}
use Rattle.ta_revised.specs.declared.revised.RevisedDictionary.TheInside.{Inside}

-- the rows of the unknowns, in their order, over the non-basic variables
abbrev pub revised_view : Inside → Tableau
revised_view d = record { non_basic = d.non_basic.items; rows = unknown_rows (length d.non_basic.items) d.rows.items }

-- what the fields keep
pub record IsSoundRevised (d : Inside) : Type 0 where
  pub rows : AreUnknownRows (length d.non_basic.items) d.rows.items
  pub columns_fit : length d.non_basic.items < 2 ^ 32
  pub rows_fit : length d.rows.items < 2 ^ 32
  pub basic : ListsBasic d.basic.items d.rows.items

-- the rows of so many unknowns from a number on, each of which belongs to its own column
abbrev pub unit_rows : ℕ → ℕ → ℕ → List TableauRow
unit_rows columns first count = map (λ u. unit_row columns u u) (range_with_len first count)

-- the rows where there are so many unknowns: the new ones belong to new columns, in which the old rows are 0
abbrev pub grown : Tableau → ℕ → Tableau
grown d unknowns =
    let old = length d.non_basic in
    let new = unknowns - old in
    record {
      non_basic = map (raised old new) d.non_basic ++ range_with_len old new;
      rows = map (zero_filled new) d.rows ++ unit_rows unknowns old new;
    }

-- the rows where every unknown belongs to its column
abbrev pub first_rows : ℕ → Tableau
first_rows unknowns = record { non_basic = range_with_len 0 unknowns; rows = unit_rows unknowns 0 unknowns }
