-- searching numbers below a bound
use Rattle.ta_base.proofs.Common.{◌≡◌, ◌⊎◌, inl, inr, ℕ, zero, suc, ◌<◌, ◌≤◌, Bool, arith, sym, ap, ◌∙◌, subst, cases_lt, cases_eq}
use Rattle.ta_base.proofs.Booleans.{same_or_not}

-- between two moments the test moves away from its first value, or it stays
abbrev pub Moves : (ℕ → Bool) → ℕ → ℕ → Type 0
Moves f s t = (i : ℕ) × (s ≤ i) × (i ≤ t) × (f i ≡ f s → ⊥)

abbrev pub Stays : (ℕ → Bool) → ℕ → ℕ → Type 0
Stays f s t = (i : ℕ) → s ≤ i → i ≤ t → f i ≡ f s

pub moves_or_stays : (f : ℕ → Bool) (s t : ℕ) → Moves f s t ⊎ Stays f s t
moves_or_stays f s zero = inr (λ i low high. ap f (omega arith))
moves_or_stays f s (suc t) =
    elim (moves_or_stays f s t) [
      | inl m ↦ inl (m.0, m.1, omega arith, m.3)
      | inr still ↦ elim (same_or_not (f (suc t)) (f s)) [
        | inl e ↦ inr (λ i low high. elim (cases_eq i (suc t)) [ inl last ↦ ap f last ∙ e | inr other ↦ still i low (omega arith) ])
        | inr ne ↦ elim (cases_lt (suc t) s) [
          | inl before ↦ inr (λ i low high. absurd (omega arith))
          | inr after ↦ inl (suc t, omega arith, omega arith, ne)
        ]
      ]
    ]

-- the greatest number below n at which P holds, or it holds at none
abbrev pub Greatest : (ℕ → Type 0) → (ℕ → Type 0) → ℕ → Type 0
Greatest P Q n = (x : ℕ) × (x < n) × P x × ((y : ℕ) → x < y → y < n → Q y)

pub greatest_or_none : (P Q : ℕ → Type 0) (n : ℕ) → ((x : ℕ) → P x ⊎ Q x) → Greatest P Q n ⊎ ((y : ℕ) → y < n → Q y)
greatest_or_none P Q zero either = inr (λ y h. absurd (omega arith))
greatest_or_none P Q (suc n) either =
    elim (either n) [
      | inl here ↦ inl (n, omega arith, here, λ y low high. absurd (omega arith))
      | inr not_here ↦ elim (greatest_or_none P Q n either) [
        | inl g ↦ inl (g.0, omega arith, g.2, λ y low high. elim (cases_eq y n) [ inl e ↦ subst Q (sym e) not_here | inr ne ↦ g.3 y low (omega arith) ])
        | inr none ↦ inr (λ y high. elim (cases_eq y n) [ inl e ↦ subst Q (sym e) not_here | inr ne ↦ none y (omega arith) ])
      ]
    ]

-- among the first k places, the one of least name at which P holds, or it holds at none
abbrev pub LeastAmong : (ℕ → ℕ) → (ℕ → Type 0) → (ℕ → Type 0) → ℕ → Type 0
LeastAmong name P Q k = (i : ℕ) × (i < k) × P i × ((j : ℕ) → j < k → name j < name i → Q j)

pub least_or_none : (name : ℕ → ℕ) (P Q : ℕ → Type 0) (k : ℕ) → ((i : ℕ) → P i ⊎ Q i) → LeastAmong name P Q k ⊎ ((j : ℕ) → j < k → Q j)
least_or_none name P Q zero either = inr (λ j h. absurd (omega arith))
least_or_none name P Q (suc k) either =
    elim (least_or_none name P Q k either) [
      | inl g ↦ elim (either k) [
        | inl here ↦ elim (cases_lt (name k) (name g.0)) [
          | inl smaller ↦ inl (
            k,
            omega arith,
            here,
            λ j h less. elim (cases_eq j k) [
              | inl same ↦ absurd (let e = ap name same in omega arith)
              | inr other ↦ g.3 j (omega arith) (omega arith)
            ],
          )
          | inr larger ↦ inl (
            g.0,
            (let h = g.1 in omega arith),
            g.2,
            λ j h less. elim (cases_eq j k) [
              | inl same ↦ absurd (let e = ap name same in omega arith)
              | inr other ↦ g.3 j (omega arith) less
            ],
          )
        ]
        | inr not_here ↦ inl (
          g.0,
          (let h = g.1 in omega arith),
          g.2,
          λ j h less. elim (cases_eq j k) [
            | inl same ↦ subst Q (sym same) not_here
            | inr other ↦ g.3 j (omega arith) less
          ],
        )
      ]
      | inr none ↦ elim (either k) [
        | inl here ↦ inl (
          k,
          omega arith,
          here,
          λ j h less. elim (cases_eq j k) [
            | inl same ↦ absurd (let e = ap name same in omega arith)
            | inr other ↦ none j (omega arith)
          ],
        )
        | inr not_here ↦ inr (λ j h. elim (cases_eq j k) [ inl same ↦ subst Q (sym same) not_here | inr other ↦ none j (omega arith) ])
      ]
    ]
