-- Farkas certificates: positive multipliers of rows whose weighted sum is negative at all natural values. In the code they are leaves.
-- Source: Schrijver, Theory of Linear and Integer Programming, 1986 (Farkas' lemma).
use Rattle.std.specs.Prelude.{ℕ, ℤ, pos, ◌+◌, ◌<◌, ◌≤◌, ◌+ℤ◌, ◌*ℤ◌, ◌≤ℤ◌, ◌<ℤ◌, List, [], ◌∷◌, length, slice_get, Option, Some, None}
use Rattle.ta_linear.specs.Terms.{coefficient}
use Rattle.ta_linear.specs.declared.row.Row.{Row}
use Rattle.ta_linear.specs.declared.row.System.{System}

-- the sum of the multiplied rows, in the part that a function takes from each row
unfoldable pub weighted : {R : Type 0} → (Option R → ℤ) → List R → List (ℕ × ℤ) → ℤ
weighted part rows [] = pos 0
weighted part rows (t ∷ ts) = (t.1 *ℤ part (slice_get rows t.0)) +ℤ weighted part rows ts

-- row numbers rise from one on and exist, and each multiplier is positive
abbrev pub AreMultipliers : ℕ → ℕ → List (ℕ × ℤ) → Type 0
AreMultipliers low count [] = Unit {0}
AreMultipliers low count (t ∷ ts) = (low ≤ t.0) × (t.0 < count) × (pos 1 ≤ℤ t.1) × AreMultipliers (t.0 + 1) count ts

-- positive multipliers of rows, row numbers rising, whose sum has no positive coefficient and a negative constant
pub record Leaf {R : Type 0} (coefficient_of : ℕ → Option R → ℤ) (constant_of : Option R → ℤ) (rows : List R) (ts : List (ℕ × ℤ)) : Type 0 where
  pub multipliers : AreMultipliers 0 (length rows) ts
  pub none_positive : (x : ℕ) → weighted (coefficient_of x) rows ts ≤ℤ pos 0
  pub negative : weighted constant_of rows ts <ℤ pos 0

-- a row's coefficient of an unknown, and its constant; 0 where there is no row
abbrev pub coefficient_in : ℕ → Option Row → ℤ
coefficient_in x None = pos 0
coefficient_in x (Some row) = coefficient row.form.terms x

-- the constant of a row, and 0 if there is none
abbrev pub constant_in : Option Row → ℤ
constant_in None = pos 0
constant_in (Some row) = row.form.constant

-- a leaf of a system
abbrev pub LeafOf : System → List (ℕ × ℤ) → Type 0
LeafOf system ts = Leaf coefficient_in constant_in system.rows ts
