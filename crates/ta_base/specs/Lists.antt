-- Facts about all items of a list, defined by recursion so that a type can keep them.
use Rattle.std.specs.List.{AllByRecursion, AllByRecursion-prop}
use Rattle.std.specs.Prelude.{ℕ, ◌+◌, ◌<◌, ◌≤◌, ◌≡◌, ◌↔◌, List, [], ◌∷◌}
use Rattle.std.proofs.Props.{props}
use Rattle.ta_base.specs.Masks.{In}

-- each item has a property of its number, the first having number k
abbrev pub EachFrom : {X : Type 0} → (ℕ → X → Type 0) → ℕ → List X → Type 0
EachFrom P k [] = Unit {0}
EachFrom P k (x ∷ xs) = P k x × EachFrom P (k + 1) xs

pub EachFrom-prop : {X : Type 0} (P : ℕ → X → Type 0) → ((k : ℕ) (x : X) → IsProp (P k x)) → (k : ℕ) (xs : List X) → IsProp (EachFrom P k xs)
EachFrom-prop P prop k [] = hlevel props
EachFrom-prop P prop k (x ∷ xs) = hlevel (props, prop k x, EachFrom-prop P prop (k + 1) xs)

-- no two items are equal
abbrev pub Distinct : {X : Type 0} → List X → Type 0
Distinct [] = Unit {0}
Distinct (x ∷ xs) = AllByRecursion (λ y. x ≡ y → ⊥) xs × Distinct xs

pub Distinct-prop : {X : Type 0} (xs : List X) → IsProp (Distinct xs)
Distinct-prop [] = hlevel props
Distinct-prop (x ∷ xs) = hlevel (props, AllByRecursion-prop (λ y. x ≡ y → ⊥) (λ y. hlevel props) xs, Distinct-prop xs)

-- numbers rise strictly, from `low` on and below `high`
abbrev pub Rises : ℕ → ℕ → List ℕ → Type 0
Rises low high [] = Unit {0}
Rises low high (x ∷ xs) = (low ≤ x) × (x < high) × Rises (x + 1) high xs

pub Rises-prop : (low high : ℕ) (xs : List ℕ) → IsProp (Rises low high xs)
Rises-prop low high [] = hlevel props
Rises-prop low high (x ∷ xs) = hlevel (props, Rises-prop (x + 1) high xs)

-- items of two lists, pair by pair
abbrev pub Pairwise : {A B : Type 0} → (A → B → Type 0) → List A → List B → Type 0
Pairwise R [] [] = Unit {0}
Pairwise R (a ∷ more) (b ∷ others) = R a b × Pairwise R more others
Pairwise R [] (b ∷ others) = ⊥
Pairwise R (a ∷ more) [] = ⊥

-- two lists have the same items, whatever their order and number
abbrev pub SameMembers : {X : Type 0} → List X → List X → Type 0
SameMembers {X} xs ys = (x : X) → In x xs ↔ In x ys
