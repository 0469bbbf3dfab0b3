use Rattle.ta_simplex.proofs.Common.{◌≡◌, ◌⊎◌, inl, inr, ℕ, ◌<◌, length, arith, ℤ, pos, ◌<ℤ◌, ◌≤ℤ◌, cases_order, ints, Tableau, row_of, cell_of, basic_of}
use Rattle.ta_simplex.proofs.Common.{non_basic_of, IsDictionary, Leaves, RuleEnds, Enters, by_lt_z}
use Rattle.ta_base.proofs.Searches.{least_or_none}

leaving_or_none : (t : Tableau) → ((row : ℕ) × Leaves t row) ⊎ ((i : ℕ) → i < length t.rows → pos 0 ≤ℤ (row_of t i).constant)
leaving_or_none t =
    elim (least_or_none (basic_of t) (λ i. (row_of t i).constant <ℤ pos 0) (λ i. pos 0 ≤ℤ (row_of t i).constant) (length t.rows)
    (λ i. by_lt_z (row_of t i).constant (pos 0) inl inr)) [
      | inl g ↦ inl (g.0, record { below = g.1; negative = g.2; least = g.3 })
      | inr none ↦ inr none
    ]

entering_or_none : (t : Tableau) (row : ℕ) → ((column : ℕ) × Enters t row column) ⊎ ((j : ℕ) → j < length t.non_basic → cell_of (row_of t row) j ≤ℤ pos 0)
entering_or_none t row =
    elim (least_or_none (non_basic_of t) (λ j. pos 0 <ℤ cell_of (row_of t row) j) (λ j. cell_of (row_of t row) j ≤ℤ pos 0) (length t.non_basic)
    (λ j. by_lt_z (pos 0) (cell_of (row_of t row) j) inl inr)) [
      | inl g ↦ inl (g.0, record { below = g.1; positive = g.2; least = g.3 })
      | inr none ↦ inr none
    ]

-- a step of the rule, or there is none
pub record Chosen (t : Tableau) : Type 0 where
  pub row : ℕ
  pub column : ℕ
  pub leaves : Leaves t row
  pub enters : Enters t row column

pub choose : (t : Tableau) → Chosen t ⊎ RuleEnds t
choose t =
    elim (leaving_or_none t) [
      | inl l ↦ elim (entering_or_none t l.0) [
        | inl e ↦ inl record { row = l.0; column = e.0; leaves = l.1; enters = e.1 }
        | inr none ↦ inr (inr (l.0, record { leaves = l.1; none_enters = none }))
      ]
      | inr none ↦ inr (inl none)
    ]

-- a dictionary leaves no choice
pub same_row : (A : ℤ → (ℕ → ℤ) → Type 0) (n : ℕ) (t : Tableau) (i j : ℕ) → IsDictionary A n t → Leaves t i → Leaves t j → i ≡ j
same_row A n t i j d p q =
    elim (cases_order (basic_of t i) (basic_of t j)) [
      | inl same ↦ d.basis.basic_once i j p.below q.below same
      | inr other ↦ elim other [
        | inl less ↦ absurd (let h = q.least i p.below less in let k = p.negative in omega (arith, ints, h, k))
        | inr more ↦ absurd (let h = p.least j q.below more in let k = q.negative in omega (arith, ints, h, k))
      ]
    ]

pub same_column : (A : ℤ → (ℕ → ℤ) → Type 0) (n : ℕ) (t : Tableau) (row i j : ℕ) → IsDictionary A n t → Enters t row i → Enters t row j → i ≡ j
same_column A n t row i j d p q =
    elim (cases_order (non_basic_of t i) (non_basic_of t j)) [
      | inl same ↦ d.basis.non_basic_once i j p.below q.below same
      | inr other ↦ elim other [
        | inl less ↦ absurd (let h = q.least i p.below less in let k = p.positive in omega (arith, ints, h, k))
        | inr more ↦ absurd (let h = p.least j q.below more in let k = q.positive in omega (arith, ints, h, k))
      ]
    ]

pub not_ended : (A : ℤ → (ℕ → ℤ) → Type 0) (n : ℕ) (t : Tableau) (row column : ℕ) → IsDictionary A n t → Leaves t row → Enters t row column → RuleEnds t → ⊥
not_ended A n t row column d l e (inl none) = let h = none row l.below in let k = l.negative in absurd (omega (arith, ints, h, k))
not_ended A n t row column d l e (inr f) =
    let same = same_row A n t row f.0 d l f.1.leaves in
    let h = f.1.none_enters column e.below in
    let k = rw same at e.positive in
    absurd (omega (arith, ints, h, k))
