-- gathering the guards from which chains of pairs lead to a guard
use Rattle.ta_implied.proofs.Common.{◌≡◌, ◌↔◌, ◌⊎◌, inl, inr, ℕ, zero, suc, ◌+◌, ◌<◌, ◌≤◌, ◌^◌, List, true, ◌||◌, bit_or, arith, sym, ◌∙◌, subst, le_or_l}
use Rattle.ta_implied.proofs.Common.{false≢true, or_cases, or_left, or_right, eqb_tells, has_bit, In, has_above, has_or, ChainLeads, IsBeforeSome, LeadsSome}
use Rattle.ta_implied.proofs.Common.{cases_lt}
use Rattle.ta_implied.proofs.Chains.{one_more}

-- some guards, with all that come before one of them whose number is below another
pub record Gathered (pairs : List (ℕ × ℕ)) (found all n : ℕ) : Type 0 where
  pub grown : found ≤ all
  pub members : (j : ℕ) → (has_bit all j ≡ true) ↔ ((has_bit found j ≡ true) ⊎ IsBeforeSome pairs found n j)

pub none_gathered : (pairs : List (ℕ × ℕ)) (found : ℕ) → Gathered pairs found found 0
none_gathered pairs found = record {
  grown = omega arith;
  members = λ j. (λ h. inl h, λ h. elim h [ inl t ↦ t | inr b ↦ absurd (let w = b.1 in omega arith) ]);
}

pub one_gathered : (pairs : List (ℕ × ℕ)) (found all n part : ℕ) → Gathered pairs found all n
    → ((j : ℕ) → (has_bit part j ≡ true) ↔ ((has_bit found n ≡ true) × In (j, n) pairs)) → Gathered pairs found (bit_or all part) (n + 1)
one_gathered pairs found all n part so is = record {
  grown = (let g = so.grown in omega (arith, le_or_l all part));
  members = λ j. (λ h. forth j (or_cases (has_bit part j) (has_bit all j) (sym (has_or all part j) ∙ h)), λ h. has_or all part j ∙ hither j h);
}
  where
    forth : (j : ℕ) → (has_bit part j ≡ true) ⊎ (has_bit all j ≡ true) → (has_bit found j ≡ true) ⊎ IsBeforeSome pairs found (n + 1) j
    forth j (inl t) = let w = (is j).0 t in inr (n, omega arith, w.0, w.1)
    forth j (inr t) = elim ((so.members j).0 t) [ inl f ↦ inl f | inr b ↦ inr (b.0, (let w = b.1 in omega arith), b.2, b.3) ]

    hither : (j : ℕ) → (has_bit found j ≡ true) ⊎ IsBeforeSome pairs found (n + 1) j → (has_bit part j || has_bit all j) ≡ true
    hither j (inl t) = or_right (has_bit part j) (has_bit all j) ((so.members j).1 (inl t))
    hither j (inr b) = elim (eqb_tells b.0 n) [
      | inl e ↦ or_left (has_bit part j) (has_bit all j) ((is j).1 (subst (λ g. has_bit found g ≡ true) e.1 b.2, subst (λ g. In (j, g) pairs) e.1 b.3))
      | inr ne ↦ or_right (has_bit part j) (has_bit all j) ((so.members j).1 (inr (b.0, (let q = ne.1 in let w = b.1 in omega arith), b.2, b.3)))
    ]

-- all that come right before a guard, and some from which a chain leads to it
pub record Searched (pairs : List (ℕ × ℕ)) (guard found : ℕ) : Type 0 where
  pub direct : (j : ℕ) → In (j, guard) pairs → has_bit found j ≡ true
  pub lead : (j : ℕ) → has_bit found j ≡ true → LeadsSome pairs j guard

pub first_searched : (pairs : List (ℕ × ℕ)) (guard found : ℕ) → ((j : ℕ) → (has_bit found j ≡ true) ↔ In (j, guard) pairs) → Searched pairs guard found
first_searched pairs guard found is = record { direct = λ j i. (is j).1 i; lead = λ j t. (zero, (is j).0 t) }

pub more_searched : (pairs : List (ℕ × ℕ)) (guard found more : ℕ) → Searched pairs guard found
    → ((j : ℕ) → (has_bit more j ≡ true) ↔ ((has_bit found j ≡ true) ⊎ IsBeforeSome pairs found 64 j)) → Searched pairs guard more
more_searched pairs guard found more so is = record {
  direct = λ j i. (is j).1 (inl (so.direct j i));
  lead = λ j t. elim ((is j).0 t) [ inl f ↦ so.lead j f | inr b ↦ one_more pairs j b.0 guard b.3 (inr (so.lead b.0 b.2)) ];
}

-- where no more are found, these are all
pub all_searched : (pairs : List (ℕ × ℕ)) (guard found : ℕ) → found < 2 ^ 64 → Searched pairs guard found
    → ((j : ℕ) → (has_bit found j ≡ true) ↔ ((has_bit found j ≡ true) ⊎ IsBeforeSome pairs found 64 j)) → (j : ℕ) → (has_bit found j ≡ true)
    ↔ LeadsSome pairs j guard
all_searched pairs guard found fits so is j = (so.lead j, λ l. holds l.0 j l.1)
  where
    below : (k : ℕ) → has_bit found k ≡ true → k < 64
    below k t = elim (cases_lt k 64) [ inl b ↦ b | inr above ↦ absurd (false≢true (sym (has_above found 64 k fits above) ∙ t)) ]

    holds : (more first : ℕ) → ChainLeads pairs more first guard → has_bit found first ≡ true
    holds zero first l = so.direct first l
    holds (suc more) first l = let next = holds more l.0 l.2 in (is first).1 (inr (l.0, below l.0 next, next, l.1))
