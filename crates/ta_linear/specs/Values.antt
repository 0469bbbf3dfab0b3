-- The values of terms, forms and rows at integers, and the natural solutions of a system.
use Rattle.std.specs.Prelude.{ℕ, ℤ, pos, ◌≡◌, ◌+ℤ◌, ◌*ℤ◌, ◌≤ℤ◌, List, [], ◌∷◌, length, slice_index, slice_index_or, All}
use Rattle.ta_linear.specs.declared.form.Form.{Form}
use Rattle.ta_linear.specs.declared.row.Row.{Row}
use Rattle.ta_linear.specs.declared.row.System.{System}

-- the values of a list; 0 past its end
abbrev pub point_of : List ℤ → ℕ → ℤ
point_of values x = slice_index_or values x (pos 0)

-- the value of the terms where each variable has a value
abbrev pub terms_value : (ℕ → ℤ) → List (ℕ × ℤ) → ℤ
terms_value point [] = pos 0
terms_value point (t ∷ ts) = (t.1 *ℤ point t.0) +ℤ terms_value point ts

-- the value of a form
abbrev pub value_of : (ℕ → ℤ) → Form → ℤ
value_of point form = form.constant +ℤ terms_value point form.terms

-- the row's form is at least 0
abbrev pub RowHolds : (ℕ → ℤ) → Row → Type 0
RowHolds point row = pos 0 ≤ℤ value_of point row.form

-- one natural value for each unknown, at which each row holds
pub record Solves (system : System) (values : List ℕ) : Type 0 where
  pub count : length values ≡ system.unknowns
  pub rows_hold : All (RowHolds (λ x. pos (slice_index values x))) system.rows
