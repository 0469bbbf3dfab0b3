-- Forms within a bound, and the difference of two forms.
use Rattle.std.specs.Prelude.{ℕ, ℤ, ◌≤◌, ◌≡◌, ◌-ℤ◌, unsigned_abs}
use Rattle.ta_linear.specs.Terms.{coefficient}
use Rattle.ta_linear.specs.declared.form.Form.{Form}

-- no number of a form is above a bound in absolute value
pub record FormWithin (bound : ℕ) (form : Form) : Type 0 where
  pub constant : unsigned_abs form.constant ≤ bound
  pub coefficients : (x : ℕ) → unsigned_abs (coefficient form.terms x) ≤ bound

-- the form is one form less another and a number
pub record IsDifference (form greater less : Form) (shift : ℤ) : Type 0 where
  pub constant : form.constant ≡ ((greater.constant -ℤ less.constant) -ℤ shift)
  pub coefficients : (x : ℕ) → coefficient form.terms x ≡ (coefficient greater.terms x -ℤ coefficient less.terms x)
