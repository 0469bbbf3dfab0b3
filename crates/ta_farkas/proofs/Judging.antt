-- What the columns of a check say of a leaf, and the other way
use Rattle.ta_farkas.proofs.Common.{◌≡◌, ℕ, zero, suc, ◌+◌, ◌<◌, ◌≤◌, ◌^◌, inl, inr, List, [], ◌∷◌, length, Bool, true, false, cond, sym, subst, ap, refl, ℤ}
use Rattle.ta_farkas.proofs.Common.{pos, ◌*ℤ◌, ◌<ℤ◌, slice_get, nat_lt, arith, ints, weighted, coefficient_in, constant_in, AreMultipliers, LeafOf, column_sum}
use Rattle.ta_farkas.proofs.Common.{ColumnStays, CheckStays, row_at, FineBefore, IsFirstFaultOfLeaf, RowNumber, Overflow, Positive, NotNegative, Row, System}
use Rattle.std.proofs.lemmas.Bool.{cases_lt}
use Rattle.std.proofs.lemmas.Bool.Decides.{nat_tests}
use Rattle.std.proofs.Math.IntN.{*ℤ-zero}
use Rattle.ta_linear.specs.Rows.{AllBelow}
use Rattle.ta_linear.proofs.TermLemmas.{coefficient-above}
use Rattle.ta_farkas.specs.declared.LeafFault.{LeafFault}

-- the column of an unknown has its coefficients
column-unknown : (s : System) (ts : List (ℕ × ℤ)) (x : ℕ) → x < s.unknowns → column_sum s ts x ≡ weighted (coefficient_in x) s.rows ts
column-unknown s ts x h =
    let e : nat_lt x s.unknowns ≡ true = grind (arith, nat_tests) in
    let P : Bool → Type 0 = λ b. weighted (λ row. cond b (coefficient_in x row) (constant_in row)) s.rows ts ≡ weighted (coefficient_in x) s.rows ts in
    subst P (sym e) refl

-- the column after the unknowns has the constants
column-constant : (s : System) (ts : List (ℕ × ℤ)) → column_sum s ts s.unknowns ≡ weighted constant_in s.rows ts
column-constant s ts =
    let e : nat_lt s.unknowns s.unknowns ≡ false = grind (arith, nat_tests) in
    let P : Bool → Type 0 = λ b. weighted (λ row. cond b (coefficient_in s.unknowns row) (constant_in row)) s.rows ts ≡ weighted constant_in s.rows ts in
    subst P (sym e) refl

pub none_beyond : (n x : ℕ) (rows : List Row) (k : ℕ) → AllBelow n rows → n ≤ x → coefficient_in x (slice_get rows k) ≡ pos 0
none_beyond n x [] k all h = refl
none_beyond n x (r ∷ rs) zero all h = coefficient-above 0 n r.form.terms x all.0 h
none_beyond n x (r ∷ rs) (suc k) all h = none_beyond n x rs k all.1 h

-- variables that are no unknowns have no coefficients
weighted-beyond : (n x : ℕ) (rows : List Row) (ts : List (ℕ × ℤ)) → AllBelow n rows → n ≤ x → weighted (coefficient_in x) rows ts ≡ pos 0
unfolding weighted
weighted-beyond n x rows [] all h = refl
weighted-beyond n x rows (t ∷ ts) all h = omega
    (arith, ints, ap (λ (z : ℤ). t.1 *ℤ z) (none_beyond n x rows t.0 all h), *ℤ-zero t.1, weighted-beyond n x rows ts all h)

multipliers-narrow : (low high count : ℕ) (ts : List (ℕ × ℤ)) → AreMultipliers low high ts → ((i : ℕ) → i < length ts → row_at ts i < count)
    → AreMultipliers low count ts
multipliers-narrow low high count [] m h = tt
multipliers-narrow low high count (t ∷ ts) m h = (m.0, h 0 (omega arith), m.2, multipliers-narrow (t.0 + 1) high count ts m.3 (λ i b. h (suc i) (omega arith)))

multipliers-exist : (low count : ℕ) (ts : List (ℕ × ℤ)) → AreMultipliers low count ts → (i : ℕ) → i < length ts → row_at ts i < count
multipliers-exist low count [] m i h = absurd (omega arith)
multipliers-exist low count (t ∷ ts) m zero h = m.1
multipliers-exist low count (t ∷ ts) m (suc i) h = multipliers-exist (t.0 + 1) count ts m.3 i (omega arith)

pub leaf_of : (s : System) (ts : List (ℕ × ℤ)) → AreMultipliers 0 (2 ^ 32) ts → FineBefore s ts s.unknowns → ColumnStays s ts s.unknowns
    → column_sum s ts s.unknowns <ℤ pos 0 → LeafOf s ts × CheckStays s ts
leaf_of s ts m fine last negative = (
  record {
    multipliers = multipliers-narrow 0 (2 ^ 32) (length s.rows) ts m fine.exist;
    none_positive = λ x. elim (cases_lt x s.unknowns) [
      | inl h ↦ rw (← column-unknown s ts x h) (fine.none_positive x h)
      | inr h ↦ omega (arith, ints, weighted-beyond s.unknowns x s.rows ts s.within h)
    ];
    negative = rw (← column-constant s ts) negative;
  },
  λ column h. elim (cases_lt column s.unknowns) [
    | inl below ↦ fine.in_range column below
    | inr above ↦ (let e : s.unknowns ≡ column = omega arith in subst (ColumnStays s ts) e last)
  ],
)

-- a leaf whose check stays in range has no error
pub no_fault : (s : System) (ts : List (ℕ × ℤ)) (fault : LeafFault) → IsFirstFaultOfLeaf s ts fault → LeafOf s ts × CheckStays s ts → ⊥
no_fault s ts (RowNumber row) f w = let b = multipliers-exist 0 (length s.rows) ts w.0.multipliers f.at f.below in let e = f.is in let m = f.missing in absurd
    (omega arith)
no_fault s ts (Overflow column) f w = f.2 (w.1 column f.0)
no_fault s ts (Positive x) f w = let e = column-unknown s ts x f.0 in let n = w.0.none_positive x in let p = f.3 in absurd (omega (arith, ints))
no_fault s ts NotNegative f w = let e = column-constant s ts in let n = w.0.negative in let p = f.2 in absurd (omega (arith, ints))
