-- Lists of terms: the coefficient of a variable, and when a list is normal.
use Rattle.std.specs.Prelude.{ℕ, ℤ, pos, ◌+◌, ◌+ℤ◌, ◌==◌, ◌≤◌, ◌≢◌, List, [], ◌∷◌, if◌then◌else◌}
use Rattle.std.proofs.Props.{props}
use Rattle.ta_linear.specs.Numbers.{InRange}

-- what stands before a variable in a list of terms: the sum over its terms
abbrev pub coefficient : List (ℕ × ℤ) → ℕ → ℤ
coefficient [] x = pos 0
coefficient (t ∷ ts) x = (if t.0 == x then t.1 else pos 0) +ℤ coefficient ts x

-- one term of a normal list: its coefficient is not 0 and in range
pub record IsTerm (t : ℕ × ℤ) : Type 0 where
  pub not_zero : t.1 ≢ pos 0
  pub in_range : InRange t.1

-- variables rise from `low` on and stay below `high`; no coefficient is 0, and each is in range
abbrev pub IsNormal : ℕ → ℕ → List (ℕ × ℤ) → Type 0
IsNormal low high [] = low ≤ high
IsNormal low high (t ∷ ts) = (low ≤ t.0) × IsTerm t × IsNormal (t.0 + 1) high ts

IsTerm-prop : (t : ℕ × ℤ) → IsProp (IsTerm t)
IsTerm-prop t = hlevel props

-- a proof that terms are normal is unique
pub IsNormal-prop : (low high : ℕ) (ts : List (ℕ × ℤ)) → IsProp (IsNormal low high ts)
IsNormal-prop low high [] = hlevel props
IsNormal-prop low high (t ∷ ts) = hlevel (props, IsTerm-prop t, IsNormal-prop (t.0 + 1) high ts)
