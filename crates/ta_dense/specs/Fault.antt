-- Why a pivot is refused.
use Rattle.std.specs.Prelude.{ℕ}
use Rattle.ta_dense.specs.Tableau.{Tableau}
use Rattle.ta_dense.specs.Merge.{FirstOverflow}
use Rattle.ta_dense.specs.declared.dictionary.PivotFault.{PivotFault}
use Rattle.ta_dense.specs.declared.dictionary.PivotFault.TheVariants.{Overflow, Memory}

-- a refused pivot, in any dictionary
abbrev pub IsPivotFault : Tableau → ℕ → ℕ → PivotFault → Type 0
IsPivotFault t row column (Overflow k) = FirstOverflow t row column k
IsPivotFault t row column Memory = Unit {0}

-- a refused pivot of a dictionary whose pivots take no memory
abbrev pub IsOverflow : Tableau → ℕ → ℕ → PivotFault → Type 0
IsOverflow t row column (Overflow k) = FirstOverflow t row column k
IsOverflow t row column Memory = ⊥
