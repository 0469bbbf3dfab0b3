-- the multipliers of a row for which nothing can enter, and the values of a vertex, are one list
use Rattle.ta_simplex.proofs.Common.{cases_lt, cases_eq, cases_order, ◌≡◌, inl, inr, ℕ, ◌+◌, ◌<◌, List, [], ◌∷◌, length, arith, refl, sym, ap, ◌∙◌, subst, ℤ}
use Rattle.ta_simplex.proofs.Common.{pos, ◌≤ℤ◌, ints, coefficient, AreMultipliers, System, Tableau, basic_of, DictionaryOf, GivesMultipliers}
use Rattle.ta_simplex.proofs.MultiplierCoefficients.{coefficient_before, coefficient_first, coefficient_after}

-- a first row's multiplier is positive, so it stands in every list with the same coefficients
first_not_below : (low count : ℕ) (t : ℕ × ℤ) (ts us : List (ℕ × ℤ)) → AreMultipliers low count (t ∷ ts)
    → ((k : ℕ) → k < count → coefficient (t ∷ ts) k ≡ coefficient us k) → coefficient us t.0 ≡ pos 0 → ⊥
first_not_below low count t ts us m same none =
    let first = coefficient_first low count t ts m in
    let e = same t.0 m.1 in
    let positive : pos 1 ≤ℤ t.1 = m.2 in
    let zero_is : t.1 ≡ pos 0 = sym first ∙ e ∙ none in
    let h : pos 1 ≤ℤ pos 0 = subst (λ (z : ℤ). pos 1 ≤ℤ z) zero_is positive in
    absurd (omega (arith, ints))

pub multipliers_same : (low count : ℕ) (ts us : List (ℕ × ℤ)) → AreMultipliers low count ts → AreMultipliers low count us
    → ((k : ℕ) → k < count → coefficient ts k ≡ coefficient us k) → ts ≡ us
multipliers_same low count [] [] m n same = refl
multipliers_same low count [] (u ∷ us) m n same = absurd (first_not_below low count u us [] n (λ k h. sym (same k h)) refl)
multipliers_same low count (t ∷ ts) [] m n same = absurd (first_not_below low count t ts [] m same refl)
multipliers_same low count (t ∷ ts) (u ∷ us) m n same =
    elim (cases_order t.0 u.0) [
      | inl rows ↦
          let first = coefficient_first low count t ts m in
          let other = coefficient_first low count u us n in
          let factors : t.1 ≡ u.1 = sym first ∙ same t.0 m.1 ∙ ap (coefficient (u ∷ us)) rows ∙ other in
          let pairs : t ≡ u = ap (λ (r : ℕ). (r, t.1)) rows ∙ ap (λ (z : ℤ). (u.0, z)) factors in
          let rest = multipliers_same (t.0 + 1) count ts us m.3 (subst (λ (r : ℕ). AreMultipliers (r + 1) count us) (sym rows) n.3)
          (λ k h. rest_same count t u ts us rows m.3 (subst (λ (r : ℕ). AreMultipliers (r + 1) count us) (sym rows) n.3) same k h) in
          cc
      | inr apart ↦ elim apart [
        | inl less ↦ absurd (first_not_below low count t ts (u ∷ us) m same (coefficient_before u.0 count (u ∷ us) t.0 (omega arith, n.1, n.2, n.3) less))
        | inr more ↦ absurd (first_not_below low count u us (t ∷ ts) n (λ k h. sym (same k h))
            (coefficient_before t.0 count (t ∷ ts) u.0 (omega arith, m.1, m.2, m.3) more))
      ]
    ]
  where
    rest_same : (count : ℕ) (t u : ℕ × ℤ) (ts us : List (ℕ × ℤ)) → t.0 ≡ u.0 → AreMultipliers (t.0 + 1) count ts → AreMultipliers (t.0 + 1) count us
        → ((k : ℕ) → k < count → coefficient (t ∷ ts) k ≡ coefficient (u ∷ us) k) → (k : ℕ) → k < count → coefficient ts k ≡ coefficient us k
    rest_same count t u ts us rows m n same k h =
        elim (cases_lt t.0 k) [
          | inl after ↦ sym (coefficient_after t ts k after) ∙ same k h ∙ coefficient_after u us k (omega arith)
          | inr before ↦ coefficient_before (t.0 + 1) count ts k m (omega arith) ∙ sym (coefficient_before (t.0 + 1) count us k n (omega arith))
        ]

-- what a row for which nothing can enter says of its multipliers
pub record RowGives (unknowns count : ℕ) (t : Tableau) (row : ℕ) (ts : List (ℕ × ℤ)) : Type 0 where
  pub gives : GivesMultipliers unknowns count t row (coefficient ts)
  pub multipliers : AreMultipliers 0 count ts

-- a row of a dictionary gives each slack one multiplier
gives_same : (s : System) (t : Tableau) (row : ℕ) (f g : ℕ → ℤ) → DictionaryOf s t → GivesMultipliers s.unknowns (length s.rows) t row f
    → GivesMultipliers s.unknowns (length s.rows) t row g → (k : ℕ) → k < length s.rows → f k ≡ g k
gives_same s t row f g d is are k h =
    elim (d.basis.cover (s.unknowns + k) (omega arith)) [
      | inl b ↦ elim (cases_eq b.0 row) [
        | inl own ↦ (let v = subst (λ (i : ℕ). basic_of t i ≡ s.unknowns + k) own b.2 in is.own k h v ∙ sym (are.own k h v))
        | inr other ↦ is.others b.0 k b.1 other h b.2 ∙ sym (are.others b.0 k b.1 other h b.2)
      ]
      | inr j ↦ is.cells j.0 k j.1 h j.2 ∙ sym (are.cells j.0 k j.1 h j.2)
    ]

pub row_multipliers_once : (s : System) (t : Tableau) (row : ℕ) (ts us : List (ℕ × ℤ)) → DictionaryOf s t → RowGives s.unknowns (length s.rows) t row ts
    → RowGives s.unknowns (length s.rows) t row us → ts ≡ us
row_multipliers_once s t row ts us d is are = multipliers_same 0 (length s.rows) ts us is.multipliers are.multipliers
    (gives_same s t row (coefficient ts) (coefficient us) d is.gives are.gives)
