-- Sums of products in the order in which they are formed, and whether they stay in range.
use Rattle.std.specs.Prelude.{ℕ, ℤ, ◌+ℤ◌, ◌*ℤ◌, List, [], ◌∷◌}
use Rattle.ta_linear.specs.Numbers.{InRange}

-- from a partial sum on, each product of a factor with its number, and each sum with that product added, is in range
abbrev pub StaysInRange : (ℕ → ℤ) → ℤ → List (ℕ × ℤ) → Type 0
StaysInRange number so_far [] = Unit {0}
StaysInRange number so_far (t ∷ ts) =
    InRange (t.1 *ℤ number t.0)
    × InRange (so_far +ℤ (t.1 *ℤ number t.0))
    × StaysInRange number (so_far +ℤ (t.1 *ℤ number t.0)) ts
