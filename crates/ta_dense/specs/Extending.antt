-- The dictionary of a longer system, from the dictionary of a system with which it begins.
use Rattle.std.specs.Prelude.{ℕ, ◌+◌, ◌-◌, ◌<◌, ◌≤◌, ◌≡◌, List, ◌++◌, pos, length, map, replicate, drop, nat_lt, if◌then◌else◌}
use Rattle.std.specs.List.{range_with_len}
use Rattle.ta_linear.specs.declared.row.System.{System}
use Rattle.ta_dense.specs.Tableau.{TableauRow, Tableau, basic_of, non_basic_of}
use Rattle.ta_dense.specs.Slack.{slack_rows}
use Rattle.ta_dense.specs.Merge.{FirstRefused}
use Rattle.ta_dense.specs.Kept.{KeptPivot, kept_at, chosen_row, carried, StayInRange}
use Rattle.ta_dense.specs.declared.dictionary.ExtendFault.{ExtendFault}
use Rattle.ta_dense.specs.declared.dictionary.ExtendFault.TheVariants.{Overflow, Memory}

-- a variable's number where there are more unknowns, which stand between the old ones and the slacks
abbrev pub raised : ℕ → ℕ → ℕ → ℕ
raised unknowns new v = if nat_lt v unknowns then v else v + new

-- a row where there are more unknowns: its cells of the new ones are 0
abbrev pub widened : ℕ → ℕ → TableauRow → TableauRow
widened unknowns new r = record
    { basic = raised unknowns new r.basic; denominator = r.denominator; constant = r.constant; cells = r.cells ++ replicate new (pos 0) }

-- how many unknowns of a longer system are new, and its new rows, each solved for its slack
abbrev pub new_unknowns : Tableau → System → ℕ
new_unknowns t s = s.unknowns - length t.non_basic

abbrev pub new_rows : Tableau → System → List TableauRow
new_rows t s = slack_rows s.unknowns (s.unknowns + length t.rows) (drop (length t.rows) s.rows)

-- the tableau of a longer system after the pivots that led to this one: a column for each new unknown, which no pivot has touched, and the
-- new rows, carried through all pivots
abbrev pub extended : Tableau → List KeptPivot → System → Tableau
extended t ks s = record {
  non_basic = map (raised (length t.non_basic) (new_unknowns t s)) t.non_basic ++ range_with_len (length t.non_basic) (new_unknowns t s);
  rows = map (widened (length t.non_basic) (new_unknowns t s)) t.rows ++ carried s.unknowns ks (length ks) (new_rows t s);
}

-- a tableau of a system that has no more unknowns and no more rows: its variables are that system's
pub record MayBegin (t : Tableau) (s : System) : Type 0 where
  pub columns : length t.non_basic ≤ s.unknowns
  pub rows : length t.rows ≤ length s.rows
  pub basic_below : (i : ℕ) → i < length t.rows → basic_of t i < length t.non_basic + length t.rows
  pub non_basic_below : (j : ℕ) → j < length t.non_basic → non_basic_of t j < length t.non_basic + length t.rows

-- a pivot, counted from 0, is the first in which a new row leaves the range, and this is the least such row
pub record FirstLeaving (t : Tableau) (ks : List KeptPivot) (s : System) (pivot row : ℕ) : Type 0 where
  pub below : pivot < length ks
  pub before : StayInRange s.unknowns ks pivot (new_rows t s)
  pub new : ℕ
  pub number : row ≡ length t.rows + new
  pub refused : FirstRefused (kept_at ks pivot).column (chosen_row s.unknowns (kept_at ks pivot)) (carried s.unknowns ks pivot (new_rows t s)) new

-- why a dictionary was not extended
abbrev pub IsExtendFault : Tableau → List KeptPivot → System → ExtendFault → Type 0
IsExtendFault t ks s (Overflow pivot row) = FirstLeaving t ks s pivot row
IsExtendFault t ks s Memory = Unit {0}
