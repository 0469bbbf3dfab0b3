use Rattle.ta_dense.proofs.Common.{◌≡◌, ◌≢◌, ℕ, zero, suc, ◌<◌, List, [], ◌∷◌, length, map, set, get_or, arith, refl, ap, ℤ, pos, ◌+ℤ◌, ◌*ℤ◌, ◌-ℤ◌, neg_ℤ, ints}
use Rattle.ta_dense.proofs.Common.{expand, dot, combine}

-- a cell and its variable replaced
pub dot-set : (cs : List ℤ) (us : List ℕ) (value : ℕ → ℤ) (column : ℕ) (y : ℤ) (w : ℕ) → column < length cs → length us ≡ length cs →
    dot (set cs column y) (set us column w) value +ℤ get_or cs column (pos 0) *ℤ value (get_or us column 0) ≡ dot cs us value +ℤ y *ℤ value w
dot-set [] us value column y w h e = absurd (omega arith)
dot-set (c ∷ cs) [] value column y w h e = absurd (omega arith)
dot-set (c ∷ cs) (u ∷ us) value zero y w h e = omega (arith, ints)
dot-set (c ∷ cs) (u ∷ us) value (suc column) y w h e =
    omega (arith, ints, dot-set cs us value column y w (omega arith) (omega arith))

pub dot-neg : (cs : List ℤ) (us : List ℕ) (value : ℕ → ℤ) → dot (map neg_ℤ cs) us value ≡ neg_ℤ (dot cs us value)
dot-neg [] us value = refl
dot-neg (c ∷ cs) [] value = refl
dot-neg (c ∷ cs) (u ∷ us) value = simp expand (omega (arith, ints, dot-neg cs us value))

pub dot-combine : (p q : ℤ) (xs cs : List ℤ) (us : List ℕ) (value : ℕ → ℤ) → length xs ≡ length cs →
    dot (combine p q xs cs) us value ≡ p *ℤ dot xs us value -ℤ q *ℤ dot cs us value
dot-combine p q [] [] us value e = omega (arith, ints)
dot-combine p q [] (c ∷ cs) us value e = absurd (omega arith)
dot-combine p q (a ∷ xs) [] us value e = absurd (omega arith)
dot-combine p q (a ∷ xs) (c ∷ cs) [] value e = omega (arith, ints)
dot-combine p q (a ∷ xs) (c ∷ cs) (u ∷ us) value e =
    let h = dot-combine p q xs cs us value (omega arith) in
    simp expand (omega (arith, ints, h))

-- a variable with cell 0 replaced
pub dot-replaced : (cs : List ℤ) (us : List ℕ) (value : ℕ → ℤ) (column w : ℕ) → get_or cs column (pos 0) ≡ pos 0
    → dot cs (set us column w) value ≡ dot cs us value
dot-replaced [] us value column w e = refl
dot-replaced (c ∷ cs) [] value column w e = refl
dot-replaced (c ∷ cs) (u ∷ us) value zero w e = rw e (omega (arith, ints))
dot-replaced (c ∷ cs) (u ∷ us) value (suc column) w e = ap (λ (z : ℤ). c *ℤ value u +ℤ z) (dot-replaced cs us value column w e)

dot-same : (cs : List ℤ) (us : List ℕ) (f h : ℕ → ℤ) → ((j : ℕ) → j < length us → f (get_or us j 0) ≡ h (get_or us j 0)) → dot cs us f ≡ dot cs us h
dot-same [] us f h same = refl
dot-same (c ∷ cs) [] f h same = refl
dot-same (c ∷ cs) (u ∷ us) f h same = rw (same 0 (omega arith), dot-same cs us f h (λ j inside. same (suc j) (omega arith))) refl

-- a dot of values that differ at one column
pub dot-change : (cs : List ℤ) (us : List ℕ) (f h : ℕ → ℤ) (column : ℕ) → column < length us → length cs ≡ length us →
    ((j : ℕ) → j < length us → j ≢ column → f (get_or us j 0) ≡ h (get_or us j 0)) →
    dot cs us f +ℤ get_or cs column (pos 0) *ℤ h (get_or us column 0) ≡ dot cs us h +ℤ get_or cs column (pos 0) *ℤ f (get_or us column 0)
dot-change [] [] f h column below e same = absurd (omega arith)
dot-change [] (u ∷ us) f h column below e same = absurd (omega arith)
dot-change (c ∷ cs) [] f h column below e same = absurd (omega arith)
dot-change (c ∷ cs) (u ∷ us) f h zero below e same =
    omega (arith, ints, dot-same cs us f h (λ j inside. same (suc j) (omega arith) (omega arith)))
dot-change (c ∷ cs) (u ∷ us) f h (suc column) below e same =
    let first = ap (λ (z : ℤ). c *ℤ z) (same 0 (omega arith) (omega arith)) in
    omega (arith, ints, first, dot-change cs us f h column (omega arith) (omega arith) (λ j inside ne. same (suc j) (omega arith) (omega arith)))

pub dot-scaled : (cs : List ℤ) (us : List ℕ) (f h : ℕ → ℤ) (m : ℤ) → ((j : ℕ) → j < length us → f (get_or us j 0) ≡ m *ℤ h (get_or us j 0))
    → dot cs us f ≡ m *ℤ dot cs us h
dot-scaled [] us f h m same = omega (arith, ints)
dot-scaled (c ∷ cs) [] f h m same = omega (arith, ints)
dot-scaled (c ∷ cs) (u ∷ us) f h m same =
    let first = ap (λ (z : ℤ). c *ℤ z) (same 0 (omega arith)) in
    simp expand (omega (arith, ints, first, dot-scaled cs us f h m (λ j inside. same (suc j) (omega arith))))
