-- A kept pivot of 128-bit numbers: what its fields mean, and what they keep.
use Rattle.std.specs.Prelude.{length}
use Rattle.ta_dense.specs.Kept.{KeptPivot}
use Rattle.ta_dense.specs.Merge.{IsProper}
use Rattle.ta_dense.specs.Rows.{row_view}
use Rattle.ta_dense.specs.declared.kept.DensePivot.TheInside.{Inside}

-- what the fields of a kept pivot mean
abbrev pub pivot_view : Inside → KeptPivot
pivot_view k = record { row = k.row; column = k.column; denominator = k.chosen.denominator; constant = k.chosen.constant; cells = k.chosen.cells.items }

-- what they keep
abbrev pub IsSoundPivot : Inside → Type 0
IsSoundPivot k = IsProper (length k.chosen.cells.items) (row_view k.chosen)
