-- A dictionary of 128-bit numbers: what its fields mean, and what they keep.
use Rattle.std.specs.Prelude.{◌<◌, ◌^◌, length}
use Rattle.ta_dense.specs.Tableau.{Tableau}
use Rattle.ta_dense.specs.Rows.{views, AreProper}
use Rattle.ta_dense.specs.declared.dense.DenseDictionary.TheInside.{Inside}

-- what the fields of a dictionary mean
abbrev pub tableau_of : Inside → Tableau
tableau_of d = record { non_basic = d.non_basic.items; rows = views d.rows.items }

-- what they keep
pub record IsSound (d : Inside) : Type 0 where
  pub proper : AreProper (length d.non_basic.items) d.rows.items
  pub rows_fit : length d.rows.items < 2 ^ 32
  pub columns_fit : length d.non_basic.items < 2 ^ 32
