-- What the rows of a dictionary mean: equations that every assignment of its system satisfies.
use Rattle.std.specs.Prelude.{ℕ, ◌<◌, List, [], ◌∷◌, ℤ, pos, ◌+ℤ◌, ◌*ℤ◌, ◌<ℤ◌, ◌≡◌, ◌≢◌, ◌⊎◌, length, unsigned_abs}
use Rattle.std.specs.Int.{◌∣◌}
use Rattle.ta_dense.specs.Tableau.{TableauRow, Tableau, row_of, basic_of, non_basic_of}

-- the sum of cells times the values of the variables beside them
abbrev pub dot : List ℤ → List ℕ → (ℕ → ℤ) → ℤ
dot [] us value = pos 0
dot (c ∷ cs) [] value = pos 0
dot (c ∷ cs) (u ∷ us) value = c *ℤ value u +ℤ dot cs us value

-- the row's equation, at a scale and values of the variables
abbrev pub EquationHolds : List ℕ → TableauRow → ℤ → (ℕ → ℤ) → Type 0
EquationHolds us r scale value = r.denominator *ℤ value r.basic ≡ scale *ℤ r.constant +ℤ dot r.cells us value

-- a number divides each of a list
abbrev pub AllDivided : ℕ → List ℤ → Type 0
AllDivided g [] = Unit {0}
AllDivided g (x ∷ xs) = (g ∣ unsigned_abs x) × AllDivided g xs

-- a number divides each number of a row
pub record Divides (k : ℕ) (r : TableauRow) : Type 0 where
  pub denominator : k ∣ unsigned_abs r.denominator
  pub constant : k ∣ unsigned_abs r.constant
  pub cells : AllDivided k r.cells

-- lowest terms: nothing but 1 divides each number of the row
abbrev pub IsPrimitive : TableauRow → Type 0
IsPrimitive r = (k : ℕ) → Divides k r → k ≡ 1

-- a row over non-basic variables that is true of assignments: its equation holds at each, its denominator is positive, and it is in lowest
-- terms
pub record IsDictionaryRow (Assignment : ℤ → (ℕ → ℤ) → Type 0) (us : List ℕ) (r : TableauRow) : Type 0 where
  pub positive : pos 0 <ℤ r.denominator
  pub long : length r.cells ≡ length us
  pub primitive : IsPrimitive r
  pub holds : (scale : ℤ) (value : ℕ → ℤ) → Assignment scale value → EquationHolds us r scale value

-- each of n variables is basic in one row or belongs to one column
pub record IsBasis (n : ℕ) (t : Tableau) : Type 0 where
  pub basic_below : (i : ℕ) → i < length t.rows → basic_of t i < n
  pub non_basic_below : (j : ℕ) → j < length t.non_basic → non_basic_of t j < n
  pub cover : (v : ℕ) → v < n → ((i : ℕ) × (i < length t.rows) × (basic_of t i ≡ v)) ⊎ ((j : ℕ) × (j < length t.non_basic) × (non_basic_of t j ≡ v))
  pub apart : (i j : ℕ) → i < length t.rows → j < length t.non_basic → basic_of t i ≢ non_basic_of t j
  pub basic_once : (i j : ℕ) → i < length t.rows → j < length t.rows → basic_of t i ≡ basic_of t j → i ≡ j
  pub non_basic_once : (i j : ℕ) → i < length t.non_basic → j < length t.non_basic → non_basic_of t i ≡ non_basic_of t j → i ≡ j

-- some positive multiple of each choice of a scale and of the non-basic variables is that of an assignment
abbrev pub HasFreeValues : (ℤ → (ℕ → ℤ) → Type 0) → Tableau → Type 0
HasFreeValues Assignment t = (scale : ℤ) (want : ℕ → ℤ) → (m : ℕ) × (value : (ℕ → ℤ)) × (0 < m) × Assignment (pos m *ℤ scale) value
    × ((j : ℕ) → j < length t.non_basic → value (non_basic_of t j) ≡ pos m *ℤ want (non_basic_of t j))

-- a dictionary of assignments of n variables
pub record IsDictionary (Assignment : ℤ → (ℕ → ℤ) → Type 0) (n : ℕ) (t : Tableau) : Type 0 where
  pub rows : (i : ℕ) → i < length t.rows → IsDictionaryRow Assignment t.non_basic (row_of t i)
  pub basis : IsBasis n t
  pub free : HasFreeValues Assignment t
