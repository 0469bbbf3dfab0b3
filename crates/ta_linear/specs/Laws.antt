-- What sums, multiples, negations and Farkas certificates say of values. Only the easy direction of Farkas' lemma is needed: a system with
-- a certificate has no natural solution.
use Rattle.std.specs.Prelude.{ℕ, ℤ, ◌≡◌, ◌+ℤ◌, ◌-ℤ◌, ◌*ℤ◌, pos, neg_ℤ, ◌↔◌, List}
use Rattle.ta_linear.specs.Numbers.{InRange}
use Rattle.ta_linear.specs.Forms.{IsSum, SumOutOfRange, IsMultiple, MultipleOutOfRange, IsNegation}
use Rattle.ta_linear.specs.Values.{value_of, RowHolds, Solves}
use Rattle.ta_linear.specs.Leaf.{LeafOf}
use Rattle.ta_linear.specs.declared.form.Form.{Form}
use Rattle.ta_linear.specs.declared.row.Row.{Row}
use Rattle.ta_linear.specs.declared.row.System.{System}

-- a form that is a sum shows that no number of that sum leaves the range
abbrev pub SumsStayInRange : Type 0
SumsStayInRange = (sum a b : Form) → IsSum sum a b → ¬ SumOutOfRange a b

-- a form that is a multiple shows that no number of that multiple leaves the range
abbrev pub MultiplesStayInRange : Type 0
MultiplesStayInRange = (multiple a : Form) (factor : ℤ) → IsMultiple multiple a factor → ¬ MultipleOutOfRange a factor

-- a form that is a negation shows that its constant stays in range
abbrev pub NegationsStayInRange : Type 0
NegationsStayInRange = (negation a : Form) → IsNegation negation a → InRange (neg_ℤ a.constant -ℤ pos 1)

-- the value of a sum of forms is the sum of their values
abbrev pub SumsAddValues : Type 0
SumsAddValues = (point : ℕ → ℤ) (sum a b : Form) → IsSum sum a b → value_of point sum ≡ (value_of point a +ℤ value_of point b)

-- the value of a multiple of a form is that multiple of its value
abbrev pub MultiplesScaleValues : Type 0
MultiplesScaleValues = (point : ℕ → ℤ) (multiple a : Form) (factor : ℤ) → IsMultiple multiple a factor → value_of point multiple ≡ (factor *ℤ value_of point a)

-- a negated row holds exactly if the row does not
abbrev pub NegatedRowsExclude : Type 0
NegatedRowsExclude = (point : ℕ → ℤ) (negation row : Row) → IsNegation negation.form row.form → RowHolds point negation ↔ ¬ RowHolds point row

-- a system that has a Farkas certificate has no natural solution
abbrev pub LeavesHaveNoSolution : Type 0
LeavesHaveNoSolution = (system : System) (ts : List (ℕ × ℤ)) → LeafOf system ts → (values : List ℕ) → Solves system values → ⊥
