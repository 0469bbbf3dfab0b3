-- Numbers of items by their names.
use Rattle.ta_replay.proofs.Common.{ℕ, zero, suc, ◌<◌, ◌≤◌, ◌≡◌, List, [], ◌∷◌, map, length, get_or, refl, sym, ap, ◌∙◌, arith, get_or-map, length-map}
use Rattle.ta_replay.proofs.Common.{Distinct, each_get_or, name_at, IsNameOf, NoNameOf}

-- an item of this name
pub name_of_item : {X : Type 0} (f : X → List ℕ) (xs : List X) (i : ℕ) (d : X) (name : List ℕ) → i < length xs → f (get_or xs i d) ≡ name
    → IsNameOf (map f xs) name i
name_of_item f xs i d name within named = record { exists = omega (arith, length-map xs f); named = get_or-map f xs i d [] within ∙ named }

-- no item before a place has this name
pub no_name_of_item : {X : Type 0} (f : X → List ℕ) (xs : List X) (i : ℕ) (name : List ℕ) → length xs ≤ i → ((k : ℕ) → k < i → name_at (map f xs) k ≡ name → ⊥)
    → NoNameOf (map f xs) name
no_name_of_item f xs i name all before k is = before k (omega (arith, is.exists, length-map xs f)) is.named

-- of distinct names, each is that of one item
pub one_name : (names : List (List ℕ)) (i j : ℕ) → Distinct names → i < length names → j < length names → name_at names i ≡ name_at names j → i ≡ j
one_name [] i j distinct low high e = absurd (omega arith)
one_name (n ∷ ns) zero zero distinct low high e = refl
one_name (n ∷ ns) zero (suc j) distinct low high e = absurd (each_get_or (λ m. n ≡ m → ⊥) ns j [] distinct.0 (omega arith) e)
one_name (n ∷ ns) (suc i) zero distinct low high e = absurd (each_get_or (λ m. n ≡ m → ⊥) ns i [] distinct.0 (omega arith) (sym e))
one_name (n ∷ ns) (suc i) (suc j) distinct low high e = ap suc (one_name ns i j distinct.1 (omega arith) (omega arith) e)

-- an item of another name
pub other_item : {X : Type 0} (f : X → List ℕ) (xs : List X) (i : ℕ) (d : X) (name : List ℕ) → i < length xs → (f (get_or xs i d) ≡ name → ⊥)
    → name_at (map f xs) i ≡ name → ⊥
other_item f xs i d name within other e = other (sym (get_or-map f xs i d [] within) ∙ e)
