-- Sums over lists, and how often a number occurs in a list.
use Rattle.std.specs.Prelude.{ℕ, ℤ, pos, ◌+◌, ◌+ℤ◌, ◌==◌, List, [], ◌∷◌, if◌then◌else◌}

-- the sum of a function over a list
unfoldable pub total : {X : Type 0} → (X → ℤ) → List X → ℤ
total f [] = pos 0
total f (x ∷ xs) = f x +ℤ total f xs

-- how often a number is in a list
unfoldable pub times_in : ℕ → List ℕ → ℕ
times_in r [] = 0
times_in r (x ∷ xs) = (if x == r then 1 else 0) + times_in r xs

-- 1 where two numbers are equal, else 0
abbrev pub one_if : ℕ → ℕ → ℤ
one_if x y = if x == y then pos 1 else pos 0
