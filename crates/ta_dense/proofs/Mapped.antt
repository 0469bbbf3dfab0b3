-- one more value of a function, read from a list
use Rattle.ta_dense.proofs.Common.{◌≡◌, ◌∙◌, ◌<◌, ◌+◌, ◌++◌, ◌∷◌, [], ap, sym, ℕ, List, length, get_or, map, take, take_more, map-append}

pub mapped_more : {A B : Type 0} (f : A → B) (xs : List A) (i : ℕ) (d : A) (y : B) (old items : List B) → i < length xs → y ≡ f (get_or xs i d)
    → old ≡ map f (take i xs) → items ≡ old ++ y ∷ [] → items ≡ map f (take (i + 1) xs)
mapped_more f xs i d y old items h same inv is =
    let more = ap (map f) (take_more xs i d h) ∙ map-append f (take i xs) (get_or xs i d ∷ []) in
    is ∙ ap (λ (zs : List _). zs ++ y ∷ []) inv ∙ ap (λ (z : _). map f (take i xs) ++ z ∷ []) same ∙ sym more
