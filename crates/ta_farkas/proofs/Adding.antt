-- a multiple of a row's terms, added to the sums of columns term by term
use Rattle.ta_farkas.proofs.Common.{◌≡◌, ◌⊎◌, ℕ, ◌+◌, ◌<◌, inl, inr, List, ◌∷◌, length, get_or, set, drop, drop_more, ap, ◌∙◌, arith, ints, ℤ, pos, ◌*ℤ◌}
use Rattle.ta_farkas.proofs.Common.{Option, Some, None, IsAdded, coefficient, IsNormal}
use Rattle.std.proofs.Math.IntN.{*ℤ-zero}
use Rattle.std.proofs.lemmas.List.{get_or-set_other, get_or-set_same, length-set}
use Rattle.std.proofs.lemmas.Bool.Decides.{eqb_tells, nat_tests}
use Rattle.ta_linear.proofs.TermLemmas.{coefficient-below}

-- the state of a column while terms are added: its term is not read yet, or it has its new sum
abbrev pub Added : ℤ → List (ℕ × ℤ) → List (ℕ × ℤ) → ℕ → Option ℤ → Option ℤ → Type 0
Added multiplier all left x old now =
    ((now ≡ old) × (coefficient left x ≡ coefficient all x))
    ⊎ (IsAdded old (multiplier *ℤ coefficient all x) now × (coefficient left x ≡ pos 0))

-- adding 0 changes nothing
added-zero : (product : ℤ) (sum : Option ℤ) → product ≡ pos 0 → IsAdded sum product sum
added-zero product None e = λ i. None
added-zero product (Some sum) e = λ fits. rw e ((omega (arith, ints), omega (arith, ints, fits)), omega (arith, ints))

-- no term of the column is left
pub added-end : (multiplier : ℤ) (all left : List (ℕ × ℤ)) (x : ℕ) (old now : Option ℤ) → coefficient left x ≡ pos 0
    → Added multiplier all left x old now → IsAdded old (multiplier *ℤ coefficient all x) now
added-end multiplier all left x old now none (inl ahead) =
    let zero : coefficient all x ≡ pos 0 = omega (arith, ints, ahead.1, none) in
    rw ahead.0 (added-zero (multiplier *ℤ coefficient all x) old (ap (λ (z : ℤ). multiplier *ℤ z) zero ∙ *ℤ-zero multiplier))
added-end multiplier all left x old now none (inr behind) = behind.0

-- a term of another column
added-other : (multiplier : ℤ) (all : List (ℕ × ℤ)) (t : ℕ × ℤ) (rest : List (ℕ × ℤ)) (x : ℕ) (old now : Option ℤ) → (t.0 ≡ x → ⊥)
    → Added multiplier all (t ∷ rest) x old now → Added multiplier all rest x old now
added-other multiplier all t rest x old now ne (inl ahead) = inl (ahead.0, grind (arith, ints, nat_tests, ahead.1, ne))
added-other multiplier all t rest x old now ne (inr behind) = inr (behind.0, grind (arith, ints, nat_tests, behind.1, ne))

-- the term of this column
added-this : (multiplier : ℤ) (all : List (ℕ × ℤ)) (low high : ℕ) (t : ℕ × ℤ) (rest : List (ℕ × ℤ)) (x : ℕ) (old now next : Option ℤ)
    → IsNormal low high (t ∷ rest) → t.0 ≡ x → IsAdded now (multiplier *ℤ t.1) next
    → Added multiplier all (t ∷ rest) x old now → Added multiplier all rest x old next
added-this multiplier all low high t rest x old now next n e added (inl ahead) =
    let none = coefficient-below (t.0 + 1) high rest x n.2 (omega arith) in
    let same : t.1 ≡ coefficient all x = grind (arith, ints, nat_tests, ahead.1, none, e) in
    inr (rw (← same, ← ahead.0) added, none)
added-this multiplier all low high t rest x old now next n e added (inr behind) =
    let none = coefficient-below (t.0 + 1) high rest x n.2 (omega arith) in
    let zero : t.1 ≡ pos 0 = grind (arith, ints, nat_tests, behind.1, none, e) in
    absurd (n.1.not_zero zero)

-- the terms from a place on have none of a column before the place's
pub none-before : (low high : ℕ) (ts : List (ℕ × ℤ)) (i x : ℕ) → i < length ts → IsNormal low high (drop i ts)
    → x < (get_or ts i (0, pos 0)).0 → coefficient (drop i ts) x ≡ pos 0
none-before low high ts i x h n less =
    let t = get_or ts i (0, pos 0) in
    let m = rw (drop_more ts i (0, pos 0) h) at n in
    rw (drop_more ts i (0, pos 0) h) (coefficient-below t.0 high (t ∷ drop (i + 1) ts) x (omega arith, m.1, m.2) less)

-- the term of a place is read
pub added-next : (multiplier : ℤ) (ts : List (ℕ × ℤ)) (low high i x : ℕ) (old now next : Option ℤ)
    → i < length ts → IsNormal low high (drop i ts)
    → ((get_or ts i (0, pos 0)).0 ≡ x → IsAdded now (multiplier *ℤ (get_or ts i (0, pos 0)).1) next)
    → (((get_or ts i (0, pos 0)).0 ≡ x → ⊥) → next ≡ now)
    → Added multiplier ts (drop i ts) x old now → Added multiplier ts (drop (i + 1) ts) x old next
added-next multiplier ts low high i x old now next h n this other m =
    let t = get_or ts i (0, pos 0) in
    let normal = rw (drop_more ts i (0, pos 0) h) at n in
    let state = rw (drop_more ts i (0, pos 0) h) at m in
    elim (eqb_tells t.0 x) [
      | inl e ↦ added-this multiplier ts low high t (drop (i + 1) ts) x old now next normal e.1 (this e.1) state
      | inr ne ↦ rw (other ne.1) (added-other multiplier ts t (drop (i + 1) ts) x old now ne.1 state)
    ]

-- the sum that is written at a place
pub added-at : (product : ℤ) (sums written : List (Option ℤ)) (at j : ℕ) (sum : Option ℤ) → written ≡ set sums at sum → j < length written
    → at ≡ j → IsAdded (get_or sums at None) product sum → IsAdded (get_or sums j None) product (get_or written j None)
added-at product sums written at j sum is below e added =
    let inside : j < length sums = omega (arith, ap length is, length-set sums at sum) in
    let old : get_or sums at None ≡ get_or sums j None = ap (λ (k : ℕ). get_or sums k None) e in
    let place : get_or written j None ≡ get_or (set sums at sum) j None = ap (λ (xs : List (Option ℤ)). get_or xs j None) is in
    let new : get_or written j None ≡ sum = place ∙ ap (λ (k : ℕ). get_or (set sums k sum) j None) e ∙ get_or-set_same sums j sum None inside in
    rw (← old, new) added

-- the sums beside it stay
pub kept-beside : (sums written : List (Option ℤ)) (at j : ℕ) (sum : Option ℤ) → written ≡ set sums at sum → (j ≡ at → ⊥)
    → get_or written j None ≡ get_or sums j None
kept-beside sums written at j sum is ne = ap (λ (xs : List (Option ℤ)). get_or xs j None) is ∙ get_or-set_other sums at j sum None ne
