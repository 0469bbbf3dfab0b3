-- members of lists
use Rattle.ta_base.proofs.Common.{List, ◌++◌, [], ◌∷◌, inl, inr, map, ap, Bool, ◌≡◌, true, ◌⊎◌, cond, false, filter, sym, ◌∙◌, ℕ, refl, arith, replicate, zero}
use Rattle.ta_base.proofs.Common.{suc, Contains, subst, slice_get, length, Some, take, ◌<◌, get_or, ◌+◌, reverse, nat_eq, eqb-true, eq-eqb, IsTrue, ◌↔◌}
use Rattle.ta_base.proofs.Common.{false≢true, slice_get_within, get_or_from_slice_get, take_more, take-length, list_any, AllByRecursion, In, cases_eq}
use Rattle.ta_base.proofs.Common.{get_or-replicate, length-replicate, or_cases, cond_both, reverse-reverse, All-contains, All-from_recursion, list_any_at}
use Rattle.ta_base.proofs.Common.{slice_range, ◌-◌, drop, take-append-drop, Contains-append_right}
use Rattle.std.proofs.lemmas.List.Elements.{Contains-append_left}
use Rattle.ta_base.proofs.Lists.{without_last, only_item, slice_get_left, get_right, get_map, get_parts, get_of_map}
use mathlib.Core.List.{reverse-cons}
use Rattle.ta_base.specs.Lists.{SameMembers}

-- an item of a list has a place in it, and what has a place is an item
pub place_of : {X : Type 0} (x : X) (xs : List X) → In x xs → (i : ℕ) × (slice_get xs i ≡ Some x)
place_of x [] h = absurd h
place_of x (y ∷ xs) (inl same) = (0, ap Some (sym same))
place_of x (y ∷ xs) (inr rest) = let w = place_of x xs rest in (suc w.0, w.1)

pub in_get_or : {X : Type 0} (xs : List X) (i : ℕ) (d : X) → i < length xs → In (get_or xs i d) xs
in_get_or [] i d b = absurd (omega arith)
in_get_or (x ∷ xs) zero d b = inl refl
in_get_or (x ∷ xs) (suc i) d b = inr (in_get_or xs i d (omega arith))

pub in_at : {X : Type 0} (xs : List X) (k : ℕ) (x : X) → slice_get xs k ≡ Some x → In x xs
in_at xs k x e = subst (λ y. In y xs) (get_or_from_slice_get xs k x x e) (in_get_or xs k x (slice_get_within xs k x e))

pub In-left : {X : Type 0} (x : X) (xs ys : List X) → In x xs → In x (xs ++ ys)
In-left x xs ys h = let w = place_of x xs h in in_at (xs ++ ys) w.0 x (slice_get_left xs ys w.0 x w.1)

pub In-right : {X : Type 0} (x : X) (xs ys : List X) → In x ys → In x (xs ++ ys)
In-right x xs ys h = let w = place_of x ys h in in_at (xs ++ ys) (length xs + w.0) x (get_right xs ys w.0 x w.1)

pub In-map : {X Y : Type 0} (f : X → Y) (x : X) (xs : List X) → In x xs → In (f x) (map f xs)
In-map f x xs h = let w = place_of x xs h in in_at (map f xs) w.0 (f x) (get_map f xs w.0 x w.1)

pub In-filter : {X : Type 0} (ok : X → Bool) (x : X) (xs : List X) → ok x ≡ true → In x xs → In x (filter ok xs)
In-filter ok x [] t h = absurd h
In-filter ok x (y ∷ xs) t h = cond_both (ok y) (y ∷ filter ok xs) (filter ok xs) (In x)
    (λ _. elim h [ inl same ↦ inl same | inr rest ↦ inr (In-filter ok x xs t rest) ])
    (λ no. elim h [ inl same ↦ absurd (false≢true (sym no ∙ ap ok (sym same) ∙ t)) | inr rest ↦ In-filter ok x xs t rest ])

-- a list with an item has a last one
pub last_of : (o : ℕ) (os : List ℕ) → In o os → (last : ℕ) × (os ≡ without_last os ++ last ∷ [])
last_of o [] i = absurd i
last_of o (q ∷ []) i = (q, refl)
last_of o (q ∷ r ∷ os) i = let w = last_of r (r ∷ os) (inl refl) in (w.0, ap (λ (xs : List ℕ). q ∷ xs) w.1)

pub contains_at : {X : Type 0} (xs : List X) (i : ℕ) (x : X) → slice_get xs i ≡ Some x → Contains xs x
contains_at xs i x at = (i, slice_get_within xs i x at, get_or_from_slice_get xs i x x at)

pub contains_of : (xs : List ℕ) (l : ℕ) → In l xs → Contains xs l
contains_of xs l h = let w = place_of l xs h in contains_at xs w.0 l w.1

pub in_of : (xs : List ℕ) (l : ℕ) → Contains xs l → In l xs
in_of xs l c = subst (λ y. In y xs) c.2 (in_get_or xs c.0 l c.1)

-- a number is among others, or not
pub in_or : (r : ℕ) (rules : List ℕ) → In r rules ⊎ (In r rules → ⊥)
in_or r [] = inr (λ none. none)
in_or r (q ∷ qs) = elim (cases_eq r q) [
  | inl same ↦ inl (inl same)
  | inr other ↦ elim (in_or r qs) [ inl rest ↦ inl (inr rest) | inr none ↦ inr (λ is. elim is [ inl same ↦ other same | inr rest ↦ none rest ]) ]
]

pub in_replicate : (q k n : ℕ) → In q (replicate k n) → q ≡ n
in_replicate q k n i =
    let w = contains_of (replicate k n) q i in
    sym w.2 ∙ get_or-replicate k w.0 n q (omega (arith, w.1, length-replicate k n))

pub contains_here : {X : Type 0} (x : X) (xs : List X) → Contains (x ∷ xs) x
contains_here x xs = (0, omega arith, refl)

pub contains_cases : {X : Type 0} (x y : X) (xs : List X) → Contains (y ∷ xs) x → (y ≡ x) ⊎ Contains xs x
contains_cases x y xs (zero, b, e) = inl e
contains_cases x y xs (suc k, b, e) = inr (k, omega arith, e)

pub contains_or : (x : ℕ) (xs : List ℕ) → Contains xs x ⊎ (Contains xs x → ⊥)
contains_or x xs = elim (in_or x xs) [ inl is ↦ inl (contains_of xs x is) | inr none ↦ inr (λ c. none (in_of xs x c)) ]

pub in-here : {X : Type 0} (earlier later : List X) (x : X) → In x (earlier ++ x ∷ later)
in-here earlier later x = In-right x earlier (x ∷ later) (inl refl)

pub in_append : {X : Type 0} (x : X) (xs ys : List X) → In x (xs ++ ys) → In x xs ⊎ In x ys
in_append x xs ys h =
    let w = place_of x (xs ++ ys) h in
    elim (get_parts xs ys w.0 x w.1) [ inl at ↦ inl (in_at xs w.0 x at) | inr at ↦ inr (in_at ys at.0 x at.2) ]

pub in_map : {X Y : Type 0} (f : X → Y) (y : Y) (xs : List X) → In y (map f xs) → (x : X) × In x xs × (y ≡ f x)
in_map f y xs h =
    let w = place_of y (map f xs) h in
    let o = get_of_map f xs w.0 y w.1 in
    (o.0, in_at xs w.0 o.0 o.1, sym o.2)

pub in_filter : {X : Type 0} (ok : X → Bool) (x : X) (xs : List X) → In x (filter ok xs) → (ok x ≡ true) × In x xs
in_filter ok x [] h = absurd h
in_filter ok x (y ∷ xs) h = cond_both (ok y) (y ∷ filter ok xs) (filter ok xs) (λ zs. In x zs → (ok x ≡ true) × In x (y ∷ xs))
    (λ t i. elim i [ inl same ↦ (ap ok same ∙ t, inl same) | inr rest ↦ (let w = in_filter ok x xs rest in (w.0, inr w.1)) ])
    (λ _ i. let w = in_filter ok x xs i in (w.0, inr w.1)) h

-- the items of a list and one more
pub either : (pair other : ℕ × ℕ) (others rest : List (ℕ × ℕ)) (b : Bool) (q : ℕ × ℕ) → (In q rest → In q (pair ∷ others))
    → In q (cond b (pair ∷ other ∷ others) (other ∷ rest)) → In q (pair ∷ other ∷ others)
either pair other others rest true q h i = i
either pair other others rest false q h (inl e) = inr (inl e)
either pair other others rest false q h (inr i) = elim (h i) [ inl e ↦ inl e | inr g ↦ inr (inr g) ]

pub back : (pair other : ℕ × ℕ) (others rest : List (ℕ × ℕ)) (b : Bool) (q : ℕ × ℕ) → (In q (pair ∷ others) → In q rest) → In q (pair ∷ other ∷ others)
    → In q (cond b (pair ∷ other ∷ others) (other ∷ rest))
back pair other others rest true q h i = i
back pair other others rest false q h (inl e) = inr (h (inl e))
back pair other others rest false q h (inr (inl e)) = inl e
back pair other others rest false q h (inr (inr i)) = inr (h (inr i))

pub cond_child : {X : Type 0} (x : X) (b : Bool) (xs : List X) → In x (cond b [] xs) → b ≡ false
cond_child x true xs h = absurd h
cond_child x false xs h = refl

-- what a child is
pub in_more : {X : Type 0} (x : X) (b : Bool) (xs : List X) → In x (cond b [] xs) → In x xs
in_more x b xs h = subst (λ c. In x (cond c [] xs)) (cond_child x b xs h) h

pub cond_more : {X : Type 0} (x : X) (b : Bool) (xs ys : List X) → (In x xs → In x ys) → In x (cond b [] xs) → In x (cond b [] ys)
cond_more x b xs ys more h = subst (λ c. In x (cond c [] ys)) (sym (cond_child x b xs h)) (more (in_more x b xs h))

-- an item that isn't among the first ones, nor the next one
pub not_yet : {X : Type 0} (x : X) (xs : List X) (i : ℕ) (d : X) → i < length xs → (In x (take i xs) → ⊥) → (get_or xs i d ≡ x → ⊥) → In x (take (i + 1) xs) → ⊥
not_yet x xs i d b none other h = elim (in_append x (take i xs) (get_or xs i d ∷ []) (subst (In x) (take_more xs i d b) h))
    [ inl g ↦ none g | inr (inl e) ↦ other (sym e) | inr (inr g) ↦ g ]

pub not_listed : {X : Type 0} (x : X) (xs : List X) (i : ℕ) → i ≡ length xs → (In x (take i xs) → ⊥) → In x xs → ⊥
not_listed x xs i e none h = none (subst (λ (n : ℕ). In x (take n xs)) (sym e) (subst (In x) (sym (take-length xs)) h))

pub only_in : (xs : List ℕ) (r : ℕ) → length xs ≡ 1 → In r xs → xs ≡ r ∷ []
only_in xs r e h = let w = only_item xs e in w.1 ∙ ap (λ (y : ℕ). y ∷ []) (elim (subst (In r) w.1 h) [ inl same ↦ sym same | inr none ↦ absurd none ])

in_reverse : {X : Type 0} (x : X) (xs : List X) → In x xs → In x (reverse xs)
in_reverse x [] h = h
in_reverse x (y ∷ xs) h = subst (In x) (sym (reverse-cons y xs)) (elim h [
  | inl same ↦ In-right x (reverse xs) (y ∷ []) (inl same)
  | inr rest ↦ In-left x (reverse xs) (y ∷ []) (in_reverse x xs rest)
])

of_reverse : {X : Type 0} (x : X) (xs : List X) → In x (reverse xs) → In x xs
of_reverse x xs h = subst (In x) (reverse-reverse xs) (in_reverse x (reverse xs) h)

-- the test that finds a number in a list
found : (x : ℕ) (xs : List ℕ) → list_any (λ y. nat_eq y x) xs ≡ true → In x xs
found x [] t = cc
found x (y ∷ xs) t = elim (or_cases (nat_eq y x) (list_any (λ z. nat_eq z x) xs) t)
    [ inl same ↦ inl (sym (eqb-true y x same)) | inr rest ↦ inr (found x xs rest) ]

finds : (x : ℕ) (xs : List ℕ) → In x xs → list_any (λ y. nat_eq y x) xs ≡ true
finds x xs h = let w = contains_of xs x h in list_any_at (λ y. nat_eq y x) xs w.0 x w.1 (eq-eqb (get_or xs w.0 x) x w.2)

pub begun_before : (x : ℕ) (items xs : List ℕ) (answer : Bool) → items ≡ xs → answer ≡ list_any (λ y. nat_eq y x) items → IsTrue answer ↔ In x (reverse xs)
begun_before x items xs answer same is = (
  λ yes_in. in_reverse x xs (subst (In x) same (found x items (sym is ∙ yes_in))),
  λ within. is ∙ finds x items (subst (In x) (sym same) (of_reverse x xs within)),
)

pub known_first : (n k limit : ℕ) (ks : List ℕ) → n < limit → ((j : ℕ) → In j ks → j < limit) → In k (n ∷ ks) → k < limit
known_first n k limit ks below known (inl same) = omega arith
known_first n k limit ks below known (inr old) = known k old

-- what each item has, one that a test finds has
pub listed : (P : ℕ → Type 0) (x : ℕ) (xs : List ℕ) → AllByRecursion P xs → list_any (λ y. nat_eq y x) xs ≡ true → P x
listed P x xs each among = All-contains P xs x (All-from_recursion P xs each) (contains_of xs x (found x xs among))

-- an item is the first of a list or stands behind it
pub contains_from : {X : Type 0} (x y : X) (xs : List X) → (y ≡ x) ⊎ Contains xs x → Contains (y ∷ xs) x
contains_from x y xs (inl e) = (0, omega arith, e)
contains_from x y xs (inr c) = (suc c.0, (let b = c.1 in omega arith), c.2)

-- what a part of a list contains, the list contains
pub contains_in_range : {X : Type 0} (xs : List X) (from to : ℕ) (x : X) → Contains (slice_range xs from to) x → Contains xs x
contains_in_range {X = X} xs from to x c =
    let rest : Contains (drop from xs) x = subst (λ (z : List X). Contains z x) (take-append-drop (to - from) (drop from xs))
    (Contains-append_left (slice_range xs from to) (drop (to - from) (drop from xs)) x c) in
    subst (λ (z : List X). Contains z x) (take-append-drop from xs) (Contains-append_right (take from xs) (drop from xs) x rest)

-- ---- lists with the same members
pub same_members_back : {X : Type 0} (xs ys : List X) → SameMembers xs ys → SameMembers ys xs
same_members_back xs ys same = λ x. ((same x).1, (same x).0)

pub no_members : {X : Type 0} (xs ys : List X) → xs ≡ [] → SameMembers xs ys → ys ≡ []
no_members xs [] none same = refl
no_members xs (y ∷ ys) none same = absurd (subst (In y) none ((same y).1 (inl refl)))
