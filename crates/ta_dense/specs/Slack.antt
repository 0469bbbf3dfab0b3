-- The dictionary with which solving begins, in which every slack is basic, and the assignments of a system. Source: Chvátal, Linear
-- Programming, 1983 (dictionaries).
use Rattle.std.specs.Prelude.{ℕ, suc, ◌+◌, List, [], ◌∷◌, ℤ, pos, ◌+ℤ◌, ◌*ℤ◌, ◌≡◌, map, length}
use Rattle.std.specs.List.{range_with_len}
use Rattle.ta_linear.specs.Terms.{coefficient}
use Rattle.ta_linear.specs.Values.{terms_value}
use Rattle.ta_linear.specs.declared.row.Row.{Row}
use Rattle.ta_linear.specs.declared.row.System.{System}
use Rattle.ta_dense.specs.Tableau.{TableauRow, Tableau}

-- the coefficients of the unknowns
abbrev pub coefficients : ℕ → List (ℕ × ℤ) → List ℤ
coefficients unknowns ts = map (coefficient ts) (range_with_len 0 unknowns)

-- a row solved for its slack
abbrev pub slack_row_of : ℕ → ℕ → Row → TableauRow
slack_row_of unknowns v r = record { basic = v; denominator = pos 1; constant = r.form.constant; cells = coefficients unknowns r.form.terms }

-- each row solved for its slack, the first of which is v
abbrev pub slack_rows : ℕ → ℕ → List Row → List TableauRow
slack_rows unknowns v [] = []
slack_rows unknowns v (r ∷ rs) = slack_row_of unknowns v r ∷ slack_rows unknowns (suc v) rs

-- the tableau in which every slack is basic
unfoldable pub slack_tableau : System → Tableau
slack_tableau s = record { non_basic = range_with_len 0 s.unknowns; rows = slack_rows s.unknowns s.unknowns s.rows }

-- how many variables there are: the unknowns, and then a slack for each row
abbrev pub variables : System → ℕ
variables s = s.unknowns + length s.rows

-- the value of a row's slack: its linear part plus the scale times its constant
abbrev pub slack_at : Row → ℤ → (ℕ → ℤ) → ℤ
slack_at row scale value = terms_value value row.form.terms +ℤ scale *ℤ row.form.constant

-- each slack, the first of which is v, has its row's value
abbrev pub SlacksFollow : List Row → ℕ → ℤ → (ℕ → ℤ) → Type 0
SlacksFollow [] v scale value = Unit {0}
SlacksFollow (r ∷ rs) v scale value = (value v ≡ slack_at r scale value) × SlacksFollow rs (suc v) scale value

-- a scale and a value for each variable, the unknowns' being any
abbrev pub IsAssignment : System → ℤ → (ℕ → ℤ) → Type 0
IsAssignment s scale value = SlacksFollow s.rows s.unknowns scale value
