-- terms in order of their variables: their coefficients, and that these determine them
use Rattle.ta_linear.proofs.Common.{◌≡◌, ℕ, ℤ, ◌+◌, List, ◌∷◌, arith, ◌≢◌, inl, inr, [], sym, ap, ◌∙◌, refl, subst, pos, ◌<◌, ◌≤◌, ints, nat_tests, coefficient}
use Rattle.ta_linear.proofs.Common.{IsNormal, same_cons}
use Rattle.std.proofs.Math.Nat.{lt_of_not-le}
use Rattle.std.proofs.lemmas.Bool.{cases_eq, cases_order}
use Rattle.ta_linear.proofs.TermLemmas.{coefficient-below}

pub coefficient-first : (high : ℕ) (t : ℕ × ℤ) (ts : List (ℕ × ℤ)) → IsNormal (t.0 + 1) high ts → coefficient (t ∷ ts) t.0 ≡ t.1
coefficient-first high t ts n =
    let later = coefficient-below (t.0 + 1) high ts t.0 n (omega arith) in
    grind (arith, ints, nat_tests)

pub coefficient-other : (t : ℕ × ℤ) (ts : List (ℕ × ℤ)) (x : ℕ) → t.0 ≢ x → coefficient (t ∷ ts) x ≡ coefficient ts x
coefficient-other t ts x ne = grind (arith, ints, nat_tests)

-- two normal lists with the same coefficients are the same
pub normal_unique : (low high : ℕ) (a b : List (ℕ × ℤ)) → IsNormal low high a → IsNormal low high b → ((x : ℕ) → coefficient a x ≡ coefficient b x) → a ≡ b
normal_unique low high [] [] m n h = refl
normal_unique low high [] (t ∷ b) m n h = absurd (n.1.not_zero (sym (coefficient-first high t b n.2) ∙ sym (h t.0)))
normal_unique low high (s ∷ a) [] m n h = absurd (m.1.not_zero (sym (coefficient-first high s a m.2) ∙ h s.0))
normal_unique low high (s ∷ a) (t ∷ b) m n h = elim (cases_order s.0 t.0) [
  | inl e ↦ (
      let values : s.1 ≡ t.1 = sym (coefficient-first high s a m.2) ∙ h s.0 ∙ ap (coefficient (t ∷ b)) e ∙ coefficient-first high t b n.2 in
      let later : IsNormal (s.0 + 1) high b = subst (λ k. IsNormal (k + 1) high b) (sym e) n.2 in
      let rest : a ≡ b = normal_unique (s.0 + 1) high a b m.2 later (λ x. elim (cases_eq s.0 x) [
        | inl same ↦ coefficient-below (s.0 + 1) high a x m.2 (omega arith) ∙ sym (coefficient-below (s.0 + 1) high b x later (omega arith))
        | inr ne ↦ sym (coefficient-other s a x ne) ∙ h x ∙ coefficient-other t b x (λ q. ne (e ∙ q))
      ]) in
      same_cons s t a b e values rest
      )
  | inr less ↦ elim less [
    | inl l ↦ absurd (m.1.not_zero (sym (coefficient-first high s a m.2) ∙ h s.0 ∙ coefficient-below t.0 high (t ∷ b) s.0 (omega arith, n.1, n.2) l))
    | inr l ↦ absurd (n.1.not_zero (sym (coefficient-first high t b n.2) ∙ sym (h t.0) ∙ coefficient-below s.0 high (s ∷ a) t.0 (omega arith, m.1, m.2) l))
  ]
]

-- terms whose coefficients from a variable on are 0 stay below it
pub normal_narrow : (low high places : ℕ) (ts : List (ℕ × ℤ)) → low ≤ places → IsNormal low high ts → ((x : ℕ) → places ≤ x → coefficient ts x ≡ pos 0)
    → IsNormal low places ts
normal_narrow low high places [] h n none = h
normal_narrow low high places (t ∷ ts) h n none =
    let first = coefficient-first high t ts n.2 in
    let below : t.0 < places = lt_of_not-le (λ k. n.1.not_zero (sym first ∙ none t.0 k)) in
    (n.0, n.1, normal_narrow (t.0 + 1) high places ts (omega (arith, below)) n.2 (λ x k. sym (coefficient-other t ts x (omega (arith, below))) ∙ none x k))
