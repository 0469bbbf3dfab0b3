-- one more value of a function, read from a list
use Rattle.ta_witness.proofs.Common.{refl, ◌≡◌, ◌∙◌, ◌<◌, ◌+◌, ◌++◌, ◌∷◌, [], ap, sym, ℕ, ℤ, List, length, get_or, map, take, take_more, map-append, each_push}
use Rattle.ta_witness.proofs.Common.{AreValues, Value}

pub mapped_more : {A : Type 0} (f : A → ℤ) (xs : List A) (i : ℕ) (d : A) (z : ℤ) (old new : List ℤ) → i < length xs → z ≡ f (get_or xs i d)
    → old ≡ map f (take i xs) → new ≡ old ++ z ∷ [] → new ≡ map f (take (i + 1) xs)
mapped_more f xs i d z old new h same inv is =
    let more = ap (map f) (take_more xs i d h) ∙ map-append f (take i xs) (get_or xs i d ∷ []) in
    is ∙ ap (λ (zs : List ℤ). zs ++ z ∷ []) inv ∙ ap (λ (y : ℤ). map f (take i xs) ++ y ∷ []) same ∙ sym more

pub values_read : {A : Type 0} (f : A → ℤ) (xs : List A) (i : ℕ) (d : A) (z : ℤ) (old : List ℤ) → i < length xs → z ≡ f (get_or xs i d) → Value z
    → AreValues (map f (take i xs)) old → AreValues (map f (take (i + 1) xs)) (old ++ z ∷ [])
values_read f xs i d z old h same v own = record {
  are = mapped_more f xs i d z old (old ++ z ∷ []) h same own.are refl;
  natural = each_push Value old z own.natural v;
}
