-- The least-index rule of the simplex method, in its form for feasibility. Source: Bland, New Finite Pivoting Rules for the Simplex Method,
-- 1977.
use Rattle.std.specs.Prelude.{ℕ, zero, suc, ◌-◌, ◌^◌, ◌≡◌, ◌⊎◌, min}
use Rattle.ta_dense.specs.Tableau.{Tableau, pivoted}
pub use Rattle.ta_dense.specs.Leaving.{Leaves, NoneLeaves}
use Rattle.ta_dense.specs.Entering.{Enters, NoneEnters}
use Rattle.ta_dense.specs.Merge.{AllMergeInRange, FirstOverflow}

-- one step: the least variable leaves that can, the least that can then enters, and the pivot stays in range
pub record LeastStep (t t' : Tableau) : Type 0 where
  pub row : ℕ
  pub column : ℕ
  pub leaves : Leaves t row
  pub enters : Enters t row column
  pub in_range : AllMergeInRange t row column
  pub next : t' ≡ pivoted t row column

-- a tableau after k steps
abbrev pub Reached : Tableau → ℕ → Tableau → Type 0
Reached start zero t = t ≡ start
Reached start (suc k) t = (s : Tableau) × Reached start k s × LeastStep s t

-- nothing can enter for the variable of a row
pub record Stuck (t : Tableau) (row : ℕ) : Type 0 where
  pub leaves : Leaves t row
  pub none_enters : NoneEnters t row

-- a count, which stops at its type's maximum
abbrev pub IsCount : ℕ → ℕ → Type 0
IsCount k count = count ≡ min k (2 ^ 64 - 1)

-- the pivot with this count leaves the range, and those before stay in it
pub record OverflowsAt (start : Tableau) (count : ℕ) : Type 0 where
  pub steps : ℕ
  pub counted : IsCount (suc steps) count
  pub tableau : Tableau
  pub reached : Reached start steps tableau
  pub row : ℕ
  pub column : ℕ
  pub leaves : Leaves tableau row
  pub enters : Enters tableau row column
  pub at : ℕ
  pub overflow : FirstOverflow tableau row column at

-- the rule ends at a tableau: nothing leaves, or nothing can enter for what leaves
abbrev pub RuleEnds : Tableau → Type 0
RuleEnds t = NoneLeaves t ⊎ ((row : ℕ) × Stuck t row)
