-- The forms and vectors that those of the code stand for, and bounds on their numbers.
use Rattle.std.specs.Prelude.{ℕ, ℤ, pos, ◌≤◌, unsigned_abs, Bool, List, map, slice_get, Option, Some, None}
use Rattle.ta_linear.specs.Terms.{coefficient}
use Rattle.ta_linear.specs.declared.form.Form.{Form}
use Rattle.ta_linear.specs.declared.row.Row.{Row}
use Rattle.std.specs.List.{list_any}
use Rattle.ta_moments.specs.Forms.{UnknownForm, below_zero, number_form}
use Rattle.ta_moments.specs.Moments.{Vector}

-- what a form says
abbrev pub form_of : Form → UnknownForm
form_of form = record { constant = form.constant; coefficient = λ u. coefficient form.terms u }

-- what rows say, in order
abbrev pub forms_of : List Row → List UnknownForm
forms_of rows = map (λ (row : Row). form_of row.form) rows

-- what forms say, in order
abbrev pub all_forms : List Form → List UnknownForm
all_forms forms = map form_of forms

-- what a form says; 0 if there is none
abbrev pub form_in : Option Form → UnknownForm
form_in None = number_form (pos 0)
form_in (Some form) = form_of form

-- a form for each rule, by its number; 0 for the others
abbrev pub vector_of : List Form → Vector
vector_of forms r = form_in (slice_get forms r)

-- no number of a form is above another in absolute value
pub record SmallBy (n : ℕ) (f : UnknownForm) : Type 0 where
  pub constant : unsigned_abs f.constant ≤ n
  pub coefficients : (u : ℕ) → unsigned_abs (f.coefficient u) ≤ n

-- the same of each form of a vector
pub record SmallVector (n : ℕ) (v : Vector) : Type 0 where
  pub each : (r : ℕ) → SmallBy n (v r)

-- whether a coefficient is negative
abbrev pub has_negative : List (ℕ × ℤ) → Bool
has_negative terms = list_any (λ (t : ℕ × ℤ). below_zero t.1) terms
