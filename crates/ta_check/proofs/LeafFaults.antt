-- A leaf has one first error
use Rattle.ta_check.proofs.Common.{◌≡◌, ℕ, ◌<◌, ◌≤◌, ◌⊎◌, List, ℤ, pos, ◌≤ℤ◌, ◌<ℤ◌, inl, inr, refl, sym, ap, subst, ◌∙◌, arith, cases_lt, ints, System}
use Rattle.ta_check.proofs.Common.{Automaton, FailsToShow, IsShown, no_fault, weighted_same, part_in, entry, column_sum, ColumnStays, row_at, FirstMissing}
use Rattle.ta_check.proofs.Common.{FineBefore, IsFirstFaultOfLeaf, LeafFault, RowNumber, Overflow, Positive, NotNegative, FirstLeafFault, stays_same, Pending}
use Rattle.ta_check.proofs.Common.{Search}
use Rattle.ta_base.proofs.Naturals.{neither_below}
use Rattle.ta_encode.proofs.SameSystems.{same_numbers}
use Rattle.ta_implied.proofs.PairNumbers.{pair_numbers}
use Rattle.ta_linear.proofs.RowsAlike.{count_alike}
use Rattle.ta_linear.specs.SameNumbers.{SameNumbers}
use Rattle.ta_farkas.proofs.Alike.{entry_alike}

-- the same sums
same_sum : (s z : System) (ts : List (ℕ × ℤ)) (column : ℕ) → SameNumbers s z → column_sum s ts column ≡ column_sum z ts column
same_sum s z ts column same = weighted_same (part_in s.unknowns column) (part_in z.unknowns column) s.rows z.rows ts (entry_alike s z same column)

-- the same columns stay in range
same_stay : (s z : System) (ts : List (ℕ × ℤ)) (column : ℕ) → SameNumbers s z → ColumnStays s ts column → ColumnStays z ts column
same_stay s z ts column same stays = stays_same (entry s column) (entry z column) (pos 0) ts (entry_alike s z same column) stays

same_leave : (s z : System) (ts : List (ℕ × ℤ)) (column : ℕ) → SameNumbers s z → ¬ ColumnStays s ts column → ¬ ColumnStays z ts column
same_leave s z ts column same leaves stays = leaves (stays_same (entry z column) (entry s column) (pos 0) ts (λ k. sym (entry_alike s z same column k)) stays)

-- the same columns are fine
same_fine : (s z : System) (ts : List (ℕ × ℤ)) (column : ℕ) → SameNumbers s z → FineBefore s ts column → FineBefore z ts column
same_fine s z ts column same fine = record {
  exist = λ i below. subst (λ n. row_at ts i < n) (count_alike s.rows z.rows same.rows) (fine.exist i below);
  in_range = λ c before. same_stay s z ts c same (fine.in_range c before);
  none_positive = λ c before. subst (λ x. x ≤ℤ pos 0) (same_sum s z ts c same) (fine.none_positive c before);
}

-- the same first error
same_fault : (s z : System) (ts : List (ℕ × ℤ)) (f : LeafFault) → SameNumbers s z → IsFirstFaultOfLeaf s ts f → IsFirstFaultOfLeaf z ts f
same_fault s z ts (RowNumber row) same first = record {
  at = first.at;
  below = first.below;
  is = first.is;
  missing = subst (λ n. n ≤ row) (count_alike s.rows z.rows same.rows) first.missing;
  first = λ j before. subst (λ n. row_at ts j < n) (count_alike s.rows z.rows same.rows) (first.first j before);
}
same_fault s z ts (Overflow column) same first =
    (subst (λ n. column ≤ n) same.unknowns first.0, same_fine s z ts column same first.1, same_leave s z ts column same first.2)
same_fault s z ts (Positive unknown) same first = (
  subst (λ n. unknown < n) same.unknowns first.0,
  same_fine s z ts unknown same first.1,
  same_stay s z ts unknown same first.2,
  subst (λ x. pos 0 <ℤ x)
      (same_sum s z ts unknown same) first.3,
)
same_fault s z ts NotNegative same first = (
  subst (FineBefore z ts) same.unknowns (same_fine s z ts s.unknowns same first.0),
  subst (ColumnStays z ts) same.unknowns (same_stay s z ts s.unknowns same first.1),
  subst (λ n. pos 0 ≤ℤ column_sum z ts n) same.unknowns (subst (λ x. pos 0 ≤ℤ x) (same_sum s z ts s.unknowns same) first.2),
)

-- where a row is missing, no column is added up
missing_first : (s : System) (ts : List (ℕ × ℤ)) (row column : ℕ) → FirstMissing s ts row → FineBefore s ts column → ⊥
missing_first s ts row column m fine =
    let exists = fine.exist m.at m.below in
    omega arith

-- one row is the first missing one
missing_once : (s : System) (ts : List (ℕ × ℤ)) (row other : ℕ) → FirstMissing s ts row → FirstMissing s ts other → row ≡ other
missing_once s ts row other m o =
    let is = m.is in
    let is_other = o.is in
    let same = neither_below m.at o.at (λ before. omega (arith, o.first m.at before)) (λ before. omega (arith, m.first o.at before)) in
    sym is ∙ ap (row_at ts) same ∙ is_other

-- a column that leaves the range or has a positive sum
Bad : System → List (ℕ × ℤ) → ℕ → Type 0
Bad s ts column = (¬ ColumnStays s ts column) ⊎ (pos 0 <ℤ column_sum s ts column)

-- no column before is bad
none_bad : (s : System) (ts : List (ℕ × ℤ)) (c d : ℕ) → FineBefore s ts d → c < d → Bad s ts c → ⊥
unfolding Bad
none_bad s ts c d fine before (inl leaves) = leaves (fine.in_range c before)
none_bad s ts c d fine before (inr positive) = let none = fine.none_positive c before in omega (arith, ints)

-- one column is the first bad one
bad_once : (s : System) (ts : List (ℕ × ℤ)) (c d : ℕ) → FineBefore s ts c → FineBefore s ts d → Bad s ts c → Bad s ts d → c ≡ d
bad_once s ts c d fine other bad worse = neither_below c d (λ before. none_bad s ts c d other before bad) (λ before. none_bad s ts d c fine before worse)

-- a column that leaves the range has no sum
leaves_first : (s : System) (ts : List (ℕ × ℤ)) (c d : ℕ) → FineBefore s ts c → FineBefore s ts d → ¬ ColumnStays s ts c → ColumnStays s ts d → Bad s ts d → ⊥
unfolding Bad
leaves_first s ts c d fine other leaves stays bad = leaves (subst (ColumnStays s ts) (sym (bad_once s ts c d fine other (inl leaves) bad)) stays)

-- where a column leaves the range, the last has no sum
leaves_before : (s : System) (ts : List (ℕ × ℤ)) (c : ℕ) → c ≤ s.unknowns → ¬ ColumnStays s ts c → FineBefore s ts s.unknowns → ColumnStays s ts s.unknowns → ⊥
leaves_before s ts c low leaves fine stays =
    elim (cases_lt c s.unknowns) [
      | inl before ↦ leaves (fine.in_range c before)
      | inr from ↦ let last : s.unknowns ≡ c = omega arith in leaves (subst (ColumnStays s ts) last stays)
    ]

-- multipliers have one first error over a system
fault_once : (s : System) (ts : List (ℕ × ℤ)) (f g : LeafFault) → IsFirstFaultOfLeaf s ts f → IsFirstFaultOfLeaf s ts g → f ≡ g
unfolding Bad
fault_once s ts (RowNumber row) (RowNumber other) a b = ap RowNumber (missing_once s ts row other a b)
fault_once s ts (RowNumber row) (Overflow d) a b = absurd (missing_first s ts row d a b.1)
fault_once s ts (RowNumber row) (Positive d) a b = absurd (missing_first s ts row d a b.1)
fault_once s ts (RowNumber row) NotNegative a b = absurd (missing_first s ts row s.unknowns a b.0)
fault_once s ts (Overflow c) (RowNumber other) a b = absurd (missing_first s ts other c b a.1)
fault_once s ts (Overflow c) (Overflow d) a b = ap Overflow (bad_once s ts c d a.1 b.1 (inl a.2) (inl b.2))
fault_once s ts (Overflow c) (Positive d) a b = absurd (leaves_first s ts c d a.1 b.1 a.2 b.2 (inr b.3))
fault_once s ts (Overflow c) NotNegative a b = absurd (leaves_before s ts c a.0 a.2 b.0 b.1)
fault_once s ts (Positive c) (RowNumber other) a b = absurd (missing_first s ts other c b a.1)
fault_once s ts (Positive c) (Overflow d) a b = absurd (leaves_first s ts d c b.1 a.1 b.2 a.2 (inr a.3))
fault_once s ts (Positive c) (Positive d) a b = ap Positive (bad_once s ts c d a.1 b.1 (inr a.3) (inr b.3))
fault_once s ts (Positive c) NotNegative a b = absurd (none_bad s ts c s.unknowns b.0 a.0 (inr a.3))
fault_once s ts NotNegative (RowNumber other) a b = absurd (missing_first s ts other s.unknowns b a.0)
fault_once s ts NotNegative (Overflow d) a b = absurd (leaves_before s ts d b.0 b.2 a.0 a.1)
fault_once s ts NotNegative (Positive d) a b = absurd (none_bad s ts d s.unknowns a.0 b.0 (inr b.3))
fault_once s ts NotNegative NotNegative a b = refl

-- and over a word
pub leaf_fault_once : {E : Type 0} (search : Search E) (w : Pending E) (ts : List (ℕ × ℤ)) (f g : LeafFault) → FirstLeafFault search w ts f
    → FirstLeafFault search w ts g → f ≡ g
leaf_fault_once search w ts f g this that = fault_once that.system ts f g
    (same_fault this.system that.system ts f (same_numbers search w this.system that.system this.is that.is) this.first) that.first

-- and over the system of a pair
pub pair_fault_once : (a : Automaton) (pair : ℕ × ℕ) (ts : List (ℕ × ℤ)) (f g : LeafFault) → FailsToShow a pair ts f → FailsToShow a pair ts g → f ≡ g
pair_fault_once a pair ts f g this that =
    fault_once that.system ts f g (same_fault this.system that.system ts f (pair_numbers a pair.0 pair.1 this.system that.system this.is that.is) this.first)
    that.first

-- multipliers that show a pair don't fail
pub shows_or_fails : (a : Automaton) (pair : ℕ × ℕ) (ts : List (ℕ × ℤ)) (f : LeafFault) → IsShown a pair ts → FailsToShow a pair ts f → ⊥
shows_or_fails a pair ts f shown fails =
    no_fault shown.system ts f (same_fault fails.system shown.system ts f (pair_numbers a pair.0 pair.1 fails.system shown.system fails.is shown.is)
    fails.first) (shown.leaf, shown.stays)
