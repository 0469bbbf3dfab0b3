-- Sums, multiples and negations of linear forms, and where their numbers leave the range.
use Rattle.std.specs.Prelude.{ℕ, ℤ, pos, ◌+◌, ◌<◌, ◌≤◌, ◌+ℤ◌, ◌*ℤ◌, ◌-ℤ◌, neg_ℤ, ◌==◌, ◌≡◌, ◌⊎◌, List, length, if◌then◌else◌}
use Rattle.ta_linear.specs.Numbers.{InRange}
use Rattle.ta_linear.specs.Terms.{coefficient, IsNormal}
use Rattle.ta_linear.specs.declared.form.Form.{Form}

-- the form is the sum of two others
pub record IsSum (sum a b : Form) : Type 0 where
  pub constant : sum.constant ≡ (a.constant +ℤ b.constant)
  pub coefficients : (x : ℕ) → coefficient sum.terms x ≡ (coefficient a.terms x +ℤ coefficient b.terms x)

-- the constant or some coefficient of the sum leaves the range
abbrev pub SumOutOfRange : Form → Form → Type 0
SumOutOfRange a b =
    ¬ InRange (a.constant +ℤ b.constant)
    ⊎ ((x : ℕ) × ¬ InRange (coefficient a.terms x +ℤ coefficient b.terms x))

-- the form is a multiple of another
pub record IsMultiple (multiple a : Form) (factor : ℤ) : Type 0 where
  pub constant : multiple.constant ≡ (factor *ℤ a.constant)
  pub coefficients : (x : ℕ) → coefficient multiple.terms x ≡ (factor *ℤ coefficient a.terms x)

-- the constant or some coefficient of the exact multiple is out of range
abbrev pub MultipleOutOfRange : Form → ℤ → Type 0
MultipleOutOfRange a factor =
    ¬ InRange (factor *ℤ a.constant) ⊎ ((x : ℕ) × ¬ InRange (factor *ℤ coefficient a.terms x))

-- the form is another's negative, less 1
pub record IsNegation (negation a : Form) : Type 0 where
  pub constant : negation.constant ≡ (neg_ℤ a.constant -ℤ pos 1)
  pub coefficients : (x : ℕ) → coefficient negation.terms x ≡ neg_ℤ (coefficient a.terms x)

-- what two lists have apart from a term that is taken off them
pub record IsLeastTerm (left right : List (ℕ × ℤ)) (term : ℕ × ℤ) (left_rest right_rest : List (ℕ × ℤ)) : Type 0 where
  pub sums : (x : ℕ) → ((if term.0 == x then term.1 else pos 0) +ℤ (coefficient left_rest x +ℤ coefficient right_rest x)) ≡
      (coefficient left x +ℤ coefficient right x)
  pub normal : (low high : ℕ) → IsNormal low high left → IsNormal low high right → (low ≤ term.0) × InRange term.1 × IsNormal (term.0 + 1) high left_rest
      × IsNormal (term.0 + 1) high right_rest
  pub shorter : length left_rest + length right_rest < length left + length right

-- some coefficient of the sum of two normal lists leaves the range
abbrev pub SomeSumOutOfRange : List (ℕ × ℤ) → List (ℕ × ℤ) → Type 0
SomeSumOutOfRange left right =
    (low high : ℕ) → IsNormal low high left → IsNormal low high right
    → (x : ℕ) × (low ≤ x) × ¬ InRange (coefficient left x +ℤ coefficient right x)
