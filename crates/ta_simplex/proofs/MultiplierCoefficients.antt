-- what stands before a row in rising rows with multipliers
use Rattle.ta_simplex.proofs.Common.{nat_tests, ◌≡◌, ℕ, ◌+◌, ◌<◌, ◌≤◌, List, [], ◌∷◌, arith, refl, ℤ, pos, ints, coefficient, AreMultipliers}

-- nothing stands before a row below the first
pub coefficient_before : (low count : ℕ) (ts : List (ℕ × ℤ)) (k : ℕ) → AreMultipliers low count ts → k < low → coefficient ts k ≡ pos 0
coefficient_before low count [] k m h = refl
coefficient_before low count (t ∷ ts) k m h =
    let least : low ≤ t.0 = m.0 in
    let rest = coefficient_before (t.0 + 1) count ts k m.3 (omega arith) in
    grind (arith, ints, nat_tests)

-- what stands before the first row is its multiplier
pub coefficient_first : (low count : ℕ) (t : ℕ × ℤ) (ts : List (ℕ × ℤ)) → AreMultipliers low count (t ∷ ts) → coefficient (t ∷ ts) t.0 ≡ t.1
coefficient_first low count t ts m =
    let rest = coefficient_before (t.0 + 1) count ts t.0 m.3 (omega arith) in
    grind (arith, ints, nat_tests)

-- what stands before a later row is what stands before it in the rest
pub coefficient_after : (t : ℕ × ℤ) (ts : List (ℕ × ℤ)) (k : ℕ) → t.0 < k → coefficient (t ∷ ts) k ≡ coefficient ts k
coefficient_after t ts k h = grind (arith, ints, nat_tests)
