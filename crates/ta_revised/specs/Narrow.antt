-- Rows of 16-bit numbers, each with a bound.
use Rattle.std.specs.Prelude.{ℕ, ◌<◌, ◌^◌}
use Rattle.ta_dense.specs.Tableau.{TableauRow}
use Rattle.ta_dense.specs.Merge.{IsProper}
use Rattle.ta_revised.specs.Bounds.{IsBound}
use Rattle.ta_revised.specs.declared.narrow_rows.NarrowRow.{NarrowRow}

-- what a row of 16-bit numbers means
abbrev pub narrow_view : NarrowRow → TableauRow
narrow_view r = record { basic = r.basic; denominator = r.denominator; constant = r.constant; cells = r.cells }

-- what each row keeps
pub record IsNarrow (columns : ℕ) (r : NarrowRow) : Type 0 where
  pub proper : IsProper columns (narrow_view r)
  pub bounded : IsBound r.bound (narrow_view r)
  pub fits : r.bound < 2 ^ 15
