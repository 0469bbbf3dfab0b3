-- The terms of the least unknown of two lists of terms.
use Rattle.std.specs.Prelude.{ℕ, ℤ, pos, ◌+◌, ◌<◌, ◌≤◌, ◌+ℤ◌, ◌==◌, ◌≡◌, List, length, if◌then◌else◌}
use Rattle.ta_linear.specs.Numbers.{InRange}
use Rattle.ta_linear.specs.Terms.{coefficient, IsNormal}

-- what follows a term that is taken off a list; a list that does not have the unknown gives 0, and stays
abbrev pub IsTaken : List (ℕ × ℤ) → ℕ → ℤ → List (ℕ × ℤ) → Type 0
IsTaken terms unknown value rest = (x : ℕ) → coefficient terms x ≡ ((if unknown == x then value else pos 0) +ℤ coefficient rest x)

-- the least unknown of two lists, its coefficient in each, and what follows
pub record AreNextTerms (left right : List (ℕ × ℤ)) (unknown : ℕ) (one other : ℤ) (left_rest right_rest : List (ℕ × ℤ)) : Type 0 where
  pub left_taken : IsTaken left unknown one left_rest
  pub right_taken : IsTaken right unknown other right_rest
  pub normal : (low high : ℕ) → IsNormal low high left → IsNormal low high right
      → (low ≤ unknown) × InRange one × InRange other × IsNormal (unknown + 1) high left_rest × IsNormal (unknown + 1) high right_rest
  pub shorter : length left_rest + length right_rest < length left + length right
