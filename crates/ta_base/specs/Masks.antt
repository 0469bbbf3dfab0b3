-- Sets of natural numbers: as bit masks, as tests and as lists.
use Rattle.std.specs.Prelude.{ℕ, zero, suc, ◌+◌, ◌*◌, ◌/◌, ◌%◌, ◌^◌, ◌≡◌, ◌==◌, ◌<◌, ◌⊎◌, not, Bool, true, false, ◌&&◌, List, [], ◌∷◌}
use Rattle.std.specs.List.{AllByRecursion}

-- whether bit i of a mask is 1
unfoldable pub has_bit : ℕ → ℕ → Bool
has_bit mask i = ((mask / 2 ^ i) % 2) == 1

-- whether each number below another passes
unfoldable pub all_below : ℕ → (ℕ → Bool) → Bool
all_below zero test = true
all_below (suc n) test = all_below n test && test n

-- the second is true where the first is
abbrev pub implies : Bool → Bool → Bool
implies true b = b
implies false b = true

-- a list has this item
abbrev pub In : {X : Type 0} → X → List X → Type 0
In x [] = ⊥
In x (y ∷ ys) = (x ≡ y) ⊎ In x ys

-- whether some number below another passes
abbrev pub any_below : ℕ → (ℕ → Bool) → Bool
any_below n test = not (all_below n (λ k. not (test k)))

-- the number that words of 128 bits are, the least one first
unfoldable pub words_value : List ℕ → ℕ
words_value [] = 0
words_value (w ∷ ws) = words_value ws * 2 ^ 128 + w

-- words of 128 bits
abbrev pub AreWords : List ℕ → Type 0
AreWords ws = AllByRecursion (λ w. w < 2 ^ 128) ws
