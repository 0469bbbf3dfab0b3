-- The parts of a sum: their errors, and the numbers of their forms.
use Rattle.std.specs.Prelude.{ℕ, ℤ, pos, ◌≡◌, ◌+ℤ◌, Bool, false, ◌||◌, List, [], ◌∷◌, map, IsTrue, Option, Some, None}
use Rattle.ta_linear.specs.Terms.{coefficient}
use Rattle.ta_linear.specs.declared.form.Form.{Form}
use Rattle.ta_linear.specs.declared.row.Row.{Row}
use Rattle.ta_syntax.specs.Grammar.{Terms, Term, Factor}
use Rattle.ta_syntax.specs.declared.names.Digits.{Digits}
use Rattle.ta_syntax.specs.declared.tokens.Relation.{Relation}
use Rattle.ta_syntax.specs.declared.tokens.Relation.TheVariants as relation
use Rattle.ta_syntax.specs.declared.sums.Sign.{Sign}
use Rattle.ta_syntax.specs.declared.sums.TreeTerm.{TreeTerm}
use Rattle.ta_syntax.specs.declared.sums.TreeFactor.{TreeFactor}
use Rattle.ta_syntax.specs.declared.sums.TreeFactor.TheFolds.{fold-TreeTerm, fold-TreeFactor}
use Rattle.ta_meaning.specs.Sums.{number_of, signed, factor_coefficient, factor_constant}
use Rattle.ta_meaning.specs.Linear.{Linear, FormOf, is_large}
use Rattle.ta_meaning.specs.Faults.{Scope, WithFaults, factor_judged, sum_judged, term_judged}
use Rattle.ta_meaning.specs.SumParts.{IsDifference, FormWithin}

-- a term with its errors
abbrev pub judged_term : Scope → TreeTerm → WithFaults Term
judged_term s = fold-TreeTerm (WithFaults Factor) (WithFaults Terms) (WithFaults Term) (factor_judged s) (sum_judged s) (term_judged s)

-- a factor with its errors
abbrev pub judged_factor : Scope → TreeFactor → WithFaults Factor
judged_factor s = fold-TreeFactor (WithFaults Factor) (WithFaults Terms) (WithFaults Term) (factor_judged s) (sum_judged s) (term_judged s)

-- the numbers of a factor
abbrev pub linear_factor : List (List ℕ) → Factor → Linear
linear_factor names f = record { constant = factor_constant f; coefficients = map (λ x. factor_coefficient x f) names }

-- the number of a term, or another one if it has none
abbrev pub number_or : ℕ → Option Digits → ℕ
number_or other None = other
number_or other (Some d) = number_of d.text

-- each name is known, and the form has these numbers, none of them above a bound
pub record PartOf (is_known : Bool) (linear : Linear) (bound : ℕ) (form : Form) : Type 0 where
  pub known : IsTrue is_known
  pub numbers : FormOf linear form
  pub within : FormWithin bound form

-- some coefficient is above 1,000,000,000 in absolute value
abbrev pub any_large_term : List (ℕ × ℤ) → Bool
any_large_term [] = false
any_large_term (t ∷ ts) = is_large t.1 || any_large_term ts

-- the constant or a coefficient of a form is above 1,000,000,000 in absolute value
abbrev pub is_large_form : Form → Bool
is_large_form form = is_large form.constant || any_large_term form.terms

-- some row has such a number
abbrev pub any_large_row : List Row → Bool
any_large_row [] = false
any_large_row (r ∷ rs) = is_large_form r.form || any_large_row rs

-- the form is a form plus a signed form
pub record IsSignedSum (sum a : Form) (s : Sign) (b : Form) : Type 0 where
  pub constant : sum.constant ≡ (a.constant +ℤ signed s b.constant)
  pub coefficients : (x : ℕ) → coefficient sum.terms x ≡ (coefficient a.terms x +ℤ signed s (coefficient b.terms x))

-- one form less another and a number
pub record FormDifference : Type 0 where
  pub greater : Form
  pub less : Form
  pub shift : ℤ

abbrev pub form_minus : Form → Form → ℤ → FormDifference
form_minus greater less shift = record { greater = greater; less = less; shift = shift }

-- the differences that are at least 0 exactly if one form is so compared with another
abbrev pub form_differences : Relation → Form → Form → List FormDifference
form_differences relation.Less l r = form_minus r l (pos 1) ∷ []
form_differences relation.AtMost l r = form_minus r l (pos 0) ∷ []
form_differences relation.Equal l r = form_minus l r (pos 0) ∷ form_minus r l (pos 0) ∷ []
form_differences relation.AtLeast l r = form_minus l r (pos 0) ∷ []
form_differences relation.More l r = form_minus l r (pos 1) ∷ []

-- the row has the numbers of the difference
abbrev pub RowOfDifference : FormDifference → Row → Type 0
RowOfDifference d row = IsDifference row.form d.greater d.less d.shift
