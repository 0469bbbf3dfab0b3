-- Sums and comparisons as numbers: a constant, and a coefficient for each place.
use Rattle.std.specs.Prelude.{ℕ, ℤ, pos, ◌-ℤ◌, ◌≡◌, Bool, false, ◌||◌, ltb, unsigned_abs, List, [], ◌∷◌, map, slice_index_or, IsTrue}
use Rattle.std.specs.List.{list_any}
use Rattle.ta_base.specs.declared.limits.TheConstants.{LARGEST_NUMBER}
use Rattle.ta_linear.specs.Terms.{coefficient}
use Rattle.ta_linear.specs.declared.form.Form.{Form}
use Rattle.ta_linear.specs.declared.row.Row.{Row}
use Rattle.ta_syntax.specs.Grammar.{Terms, PlainComparison}
use Rattle.ta_syntax.specs.declared.tokens.Relation.{Relation}
use Rattle.ta_syntax.specs.declared.tokens.Relation.TheVariants as relation
use Rattle.ta_automaton.specs.declared.condition.Comparison.{Comparison}
use Rattle.ta_automaton.specs.declared.condition.Condition.{Condition}
use Rattle.ta_meaning.specs.Sums.{sum_coefficient, sum_constant, sum_uses}
use Rattle.ta_base.specs.Lists.{Pairwise}

-- a constant, and what stands before each of some names, in their order
pub record Linear : Type 0 where
  pub constant : ℤ
  pub coefficients : List ℤ

abbrev pub linear_sum : List (List ℕ) → Terms → Linear
linear_sum names sum = record { constant = sum_constant sum; coefficients = map (λ x. sum_coefficient x sum) names }

-- `greater - less - shift` where the row is to be at least 0
pub record Difference : Type 0 where
  pub greater : Terms
  pub less : Terms
  pub shift : ℤ

abbrev pub minus : Terms → Terms → ℤ → Difference
minus greater less shift = record { greater = greater; less = less; shift = shift }

-- the normal rows of a comparison of l with r
abbrev pub differences_by : Relation → Terms → Terms → List Difference
differences_by relation.Less l r = minus r l (pos 1) ∷ []
differences_by relation.AtMost l r = minus r l (pos 0) ∷ []
differences_by relation.Equal l r = minus l r (pos 0) ∷ minus r l (pos 0) ∷ []
differences_by relation.AtLeast l r = minus l r (pos 0) ∷ []
differences_by relation.More l r = minus l r (pos 1) ∷ []

abbrev pub linear_difference : List (List ℕ) → Difference → Linear
linear_difference names d = record {
  constant = (sum_constant d.greater -ℤ sum_constant d.less) -ℤ d.shift;
  coefficients = map (λ x. sum_coefficient x d.greater -ℤ sum_coefficient x d.less) names;
}

-- the normal rows of a comparison, as numbers
abbrev pub comparison_rows : List (List ℕ) → PlainComparison → List Linear
comparison_rows names c = map (linear_difference names) (differences_by c.relation c.left c.right)

-- the form has this constant, and these coefficients at the first places
pub record FormOf (linear : Linear) (form : Form) : Type 0 where
  pub constant : form.constant ≡ linear.constant
  pub coefficients : (i : ℕ) → coefficient form.terms i ≡ slice_index_or linear.coefficients i (pos 0)

abbrev pub RowOf : Linear → Row → Type 0
RowOf linear row = FormOf linear row.form

-- each name that a comparison uses is one of these names
pub record UsesNames (names : List (List ℕ)) (c : PlainComparison) : Type 0 where
  pub left : IsTrue (sum_uses names c.left)
  pub right : IsTrue (sum_uses names c.right)

-- the sum uses only these names, and the form has its numbers
pub record MeansForm (names : List (List ℕ)) (sum : Terms) (form : Form) : Type 0 where
  pub known : IsTrue (sum_uses names sum)
  pub numbers : FormOf (linear_sum names sum) form

-- the comparison uses only these names, and the rows have its numbers
pub record MeansComparison (names : List (List ℕ)) (c : PlainComparison) (comparison : Comparison) : Type 0 where
  pub known : UsesNames names c
  pub rows : Pairwise RowOf (comparison_rows names c) comparison.rows

abbrev pub MeansCondition : List (List ℕ) → List PlainComparison → Condition → Type 0
MeansCondition names cs condition = Pairwise (MeansComparison names) cs condition.comparisons

-- numbers above 1,000,000,000 in absolute value
abbrev pub is_large : ℤ → Bool
is_large z = ltb LARGEST_NUMBER (unsigned_abs z)

-- the constant or a coefficient is too large
abbrev pub is_large_linear : Linear → Bool
is_large_linear l = is_large l.constant || list_any is_large l.coefficients

abbrev pub any_large : List Linear → Bool
any_large [] = false
any_large (l ∷ ls) = is_large_linear l || any_large ls
