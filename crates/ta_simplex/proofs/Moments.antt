use Rattle.ta_simplex.proofs.Common.{◌≡◌, ◌≢◌, ◌⊎◌, inl, inr, ℕ, zero, suc, ◌<◌, List, [], ◌∷◌, length, get_or, true, false, eqb, arith, refl, sym, ap, ◌∙◌, ℤ}
use Rattle.ta_simplex.proofs.Common.{eq-eqb, cases_eq, both_ways, TableauRow, Tableau, no_row, pivoted, basic_of, non_basic_of, IsDictionary}
use Rattle.ta_simplex.proofs.Common.{IsDictionary-pivoted, basic_at, basic_elsewhere, non_basic_at, row_count, column_count, Leaves, Enters}
use mathlib.Core.Bool.{or-false, or-true}
use Rattle.std.proofs.Common.{ne_eqb}
use Rattle.ta_simplex.proofs.Basic.{is_basic, is_basic_in}
use Rattle.ta_simplex.proofs.Bland.{Moment}

-- the test says whether a row has the variable
is_basic_in-true : (rs : List TableauRow) (v i : ℕ) → i < length rs → (get_or rs i no_row).basic ≡ v → is_basic_in rs v ≡ true
is_basic_in-true [] v i h e = absurd (omega arith)
is_basic_in-true (r ∷ rs) v zero h e = rw (eq-eqb r.basic v e) refl
is_basic_in-true (r ∷ rs) v (suc i) h e = rw (is_basic_in-true rs v i (omega arith) e) (or-true (eqb r.basic v))

is_basic_in-found : (rs : List TableauRow) (v : ℕ) → ((i : ℕ) × (i < length rs) × ((get_or rs i no_row).basic ≡ v)) ⊎ (is_basic_in rs v ≡ false)
is_basic_in-found [] v = inr refl
is_basic_in-found (r ∷ rs) v =
    elim (cases_eq r.basic v) [
      | inl e ↦ inl (0, omega arith, e)
      | inr ne ↦ elim (is_basic_in-found rs v) [
        | inl f ↦ inl (suc f.0, (let h = f.1 in omega arith), f.2)
        | inr none ↦ inr (rw none (or-false (eqb r.basic v) ∙ ne_eqb r.basic v ne))
      ]
    ]

-- the tests of a dictionary
tests : (t : Tableau) (i : ℕ) → i < length t.rows → is_basic t (basic_of t i) ≡ true
tests t i h = is_basic_in-true t.rows (basic_of t i) i h refl

tests_not : (A : ℤ → (ℕ → ℤ) → Type 0) (n : ℕ) (t : Tableau) → IsDictionary A n t → (j : ℕ) → j < length t.non_basic → is_basic t (non_basic_of t j) ≡ false
tests_not A n t d j h = elim (is_basic_in-found t.rows (non_basic_of t j)) [ inl f ↦ absurd (d.basis.apart f.0 j f.1 h f.2) | inr none ↦ none ]

kept : (A : ℤ → (ℕ → ℤ) → Type 0) (n : ℕ) (t : Tableau) (row column : ℕ) → row < length t.rows → column < length t.non_basic → (v : ℕ) → v ≢ basic_of t row
    → v ≢ non_basic_of t column →
    is_basic (pivoted t row column) v ≡ is_basic t v
kept A n t row column h k v apart apart' =
    let rows = row_count t row column in
    both_ways (is_basic (pivoted t row column) v) (is_basic t v)
    (λ yes'. elim (is_basic_in-found (pivoted t row column).rows v) [
      | inl f ↦ elim (cases_eq f.0 row) [
        | inl same ↦ absurd (apart' (sym f.2 ∙ ap (basic_of (pivoted t row column)) same ∙ basic_at t row column h))
        | inr other ↦ (let below : f.0 < length t.rows = (let e = f.1 in omega arith) in is_basic_in-true t.rows v f.0 below
            (sym (basic_elsewhere t row column f.0 other below) ∙ f.2))
      ]
      | inr none ↦ absurd (let e = sym none ∙ yes' in cc)
    ])
    (λ yes'. elim (is_basic_in-found t.rows v) [
      | inl f ↦ elim (cases_eq f.0 row) [
        | inl same ↦ absurd (apart (sym f.2 ∙ ap (basic_of t) same))
        | inr other ↦ is_basic_in-true (pivoted t row column).rows v f.0 (let e = f.1 in omega arith) (basic_elsewhere t row column f.0 other f.1 ∙ f.2)
      ]
      | inr none ↦ absurd (let e = sym none ∙ yes' in cc)
    ])

-- a step of the least-index rule from a dictionary is a moment
pub moment : (A : ℤ → (ℕ → ℤ) → Type 0) (n : ℕ) (t : Tableau) (row column : ℕ) → IsDictionary A n t → Leaves t row → Enters t row column
    → Moment A n t (pivoted t row column)
moment A n t row column d leaves enters =
    let d' = IsDictionary-pivoted A n t row column d leaves.below enters.below enters.positive in
    let rows = row_count t row column in
    let columns = column_count t row column in
    record {
      dictionary = d;
      tests = tests t;
      tests_not = tests_not A n t d;
      row = row;
      column = column;
      leaves = leaves;
      enters = enters;
      changes = record {
        left_before = tests t row leaves.below;
        left_after = ap (is_basic (pivoted t row column)) (sym (non_basic_at t row column enters.below))
            ∙ tests_not A n (pivoted t row column) d' column (let h = enters.below in omega arith);
        entered_before = tests_not A n t d column enters.below;
        entered_after = ap (is_basic (pivoted t row column)) (sym (basic_at t row column leaves.below))
            ∙ tests (pivoted t row column) row (let h = leaves.below in omega arith);
        others = kept A n t row column leaves.below enters.below;
      };
    }
