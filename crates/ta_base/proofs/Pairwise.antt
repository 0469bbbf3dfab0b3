-- items of two lists, pair by pair
use Rattle.ta_base.proofs.Common.{◌≡◌, ◌∙◌, List, [], ◌∷◌, ◌++◌, length, ap, refl, suc, AllByRecursion}
use Rattle.ta_base.specs.Lists.{Pairwise}

pub pairwise_with : {A B : Type 0} (R S : A → B → Type 0) (xs : List A) (ys : List B) → ((x : A) (y : B) → R x y → S x y) → Pairwise R xs ys → Pairwise S xs ys
pairwise_with R S [] [] f h = tt
pairwise_with R S [] (y ∷ ys) f h = h
pairwise_with R S (x ∷ xs) [] f h = h
pairwise_with R S (x ∷ xs) (y ∷ ys) f h = (f x y h.0, pairwise_with R S xs ys f h.1)

pub pairwise_push : {A B : Type 0} (R : A → B → Type 0) (xs : List A) (ys : List B) (x : A) (y : B) → Pairwise R xs ys → R x y
    → Pairwise R (xs ++ x ∷ []) (ys ++ y ∷ [])
pairwise_push R [] [] x y h r = (r, tt)
pairwise_push R [] (v ∷ ys) x y h r = absurd h
pairwise_push R (u ∷ xs) [] x y h r = absurd h
pairwise_push R (u ∷ xs) (v ∷ ys) x y h r = (h.0, pairwise_push R xs ys x y h.1 r)

pub pairwise_each : {A B : Type 0} (R : A → B → Type 0) (P : B → Type 0) (xs : List A) (ys : List B) → ((x : A) (y : B) → R x y → P y) → Pairwise R xs ys
    → AllByRecursion P ys
pairwise_each R P [] [] f h = tt
pairwise_each R P [] (y ∷ ys) f h = absurd h
pairwise_each R P (x ∷ xs) [] f h = absurd h
pairwise_each R P (x ∷ xs) (y ∷ ys) f h = (f x y h.0, pairwise_each R P xs ys f h.1)

pub paired_length : {A B : Type 0} (R : A → B → Type 0) (xs : List A) (ys : List B) → Pairwise R xs ys → length ys ≡ length xs
paired_length R [] [] h = refl
paired_length R [] (y ∷ ys) h = absurd h
paired_length R (x ∷ xs) [] h = absurd h
paired_length R (x ∷ xs) (y ∷ ys) h = ap suc (paired_length R xs ys h.1)

-- items that are equal, pair by pair, make equal lists
pub pairwise-equal : {A : Type 0} (firsts seconds : List A) → Pairwise (λ a b. a ≡ b) firsts seconds → firsts ≡ seconds
pairwise-equal [] [] h = refl
pairwise-equal [] (b ∷ seconds) h = absurd h
pairwise-equal (a ∷ firsts) [] h = absurd h
pairwise-equal (a ∷ firsts) (b ∷ seconds) h = ap (λ z. z ∷ firsts) h.0 ∙ ap (λ zs. b ∷ zs) (pairwise-equal firsts seconds h.1)

-- where each item has at most one other, each list has at most one other
pub pairwise-one : {A B : Type 0} (R : A → B → Type 0) → ((a : A) (x y : B) → R a x → R a y → x ≡ y) → (ks : List A) (xs ys : List B) → Pairwise R ks xs
    → Pairwise R ks ys → xs ≡ ys
pairwise-one R one [] [] [] p q = refl
pairwise-one R one [] [] (y ∷ ys) p q = absurd q
pairwise-one R one [] (x ∷ xs) ys p q = absurd p
pairwise-one R one (a ∷ more) [] ys p q = absurd p
pairwise-one R one (a ∷ more) (x ∷ xs) [] p q = absurd q
pairwise-one R one (a ∷ more) (x ∷ xs) (y ∷ ys) p q =
    let first : x ≡ y = one a x y p.0 q.0 in
    let rest : xs ≡ ys = pairwise-one R one more xs ys p.1 q.1 in
    cc
