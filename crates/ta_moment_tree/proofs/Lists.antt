-- what code reads from lists, and numbers that pass
use Rattle.ta_moment_tree.proofs.Common.{◌≡◌, ◌∙◌, ℕ, ◌+◌, ◌<◌, ◌≤◌, Bool, true, false, cond, List, [], ◌∷◌, ◌++◌, get_or, length, map, slice_get, take, Option}
use Rattle.ta_moment_tree.proofs.Common.{Some, None, refl, sym, ap, arith, filter, flat_map, range_with_len, append-nil, map-append, take_more, flat_map-append}
use Rattle.ta_moment_tree.proofs.Common.{filter-append, slice_get_read, slice_get_past, IfSome, MatchOption, option_copied, HoldsAt, Bor, nat_tests, nat_lt}
use Rattle.ta_moment_tree.proofs.Common.{filter_more, numbers_more}

-- one more number, which passes or not
pub filter_kept : (test : ℕ → Bool) (n : ℕ) → test n ≡ true → filter test (range_with_len 0 n) ++ n ∷ [] ≡ filter test (range_with_len 0 (n + 1))
filter_kept test n t =
    let here : 0 + n ≡ n = omega arith in
    let old = filter test (range_with_len 0 n) in
    sym (filter_more test 0 n ∙ ap (λ k. old ++ cond (test k) (k ∷ []) []) here ∙ ap (λ b. old ++ cond b (n ∷ []) []) t)

pub filter_left : (test : ℕ → Bool) (n : ℕ) → test n ≡ false → filter test (range_with_len 0 n) ≡ filter test (range_with_len 0 (n + 1))
filter_left test n t =
    let here : 0 + n ≡ n = omega arith in
    let old = filter test (range_with_len 0 n) in
    sym (filter_more test 0 n ∙ ap (λ k. old ++ cond (test k) (k ∷ []) []) here ∙ ap (λ b. old ++ cond b (n ∷ []) []) t ∙ append-nil old)

-- what `get` gives
pub copied : {X : Type 0} (o : Option (Bor X)) (xs : List X) (i : ℕ) → IfSome o (λ x. x.now ≡ get_or xs i x.now)
    → MatchOption o (length xs ≤ i) (λ x. (i < length xs) × HoldsAt (λ y. x.now ≡ y) xs i) → option_copied o ≡ slice_get xs i
copied None xs i h k = sym (slice_get_past xs i k)
copied (Some x) xs i h k = sym (slice_get_read xs (length xs) i x.now refl k.0 h)

pub less_true : (m n : ℕ) → m < n → nat_lt m n ≡ true
less_true m n h = grind (arith, nat_tests)

pub less_false : (m n : ℕ) → n ≤ m → nat_lt m n ≡ false
less_false m n h = grind (arith, nat_tests)

-- ---- lists made number by number
pub map_numbers : {X : Type 0} (f : ℕ → X) (n : ℕ) → map f (range_with_len 0 n) ++ f n ∷ [] ≡ map f (range_with_len 0 (n + 1))
map_numbers f n =
    let here : 0 + n ≡ n = omega arith in
    sym (ap (map f) (numbers_more 0 n ∙ ap (λ k. range_with_len 0 n ++ k ∷ []) here) ∙ map-append f (range_with_len 0 n) (n ∷ []))

-- one more item, and what it becomes
pub mapped_more : {X Y : Type 0} (f : X → Y) (xs : List X) (x : X) (ys : List Y) (y : Y) → map f xs ≡ ys → f x ≡ y → map f (xs ++ x ∷ []) ≡ ys ++ y ∷ []
mapped_more f xs x ys y e h = map-append f xs (x ∷ []) ∙ ap (λ zs. zs ++ f x ∷ []) e ∙ ap (λ z. ys ++ z ∷ []) h

flat_one : {X : Type 0} (g : ℕ → List X) (xs : List ℕ) (n : ℕ) → flat_map g (xs ++ n ∷ []) ≡ flat_map g xs ++ g n
flat_one g xs n = flat_map-append g xs (n ∷ []) ∙ ap (λ ys. flat_map g xs ++ ys) (append-nil (g n))

pub flat_numbers : {X : Type 0} (g : ℕ → List X) (n : ℕ) → flat_map g (range_with_len 0 n) ++ g n ≡ flat_map g (range_with_len 0 (n + 1))
flat_numbers g n =
    let here : 0 + n ≡ n = omega arith in
    sym (ap (flat_map g) (numbers_more 0 n ∙ ap (λ k. range_with_len 0 n ++ k ∷ []) here) ∙ flat_one g (range_with_len 0 n) n)

pub flat_kept : {X : Type 0} (g : ℕ → List X) (test : ℕ → Bool) (n : ℕ) → test n ≡ true → flat_map g (filter test (range_with_len 0 n))
    ++ g n ≡ flat_map g (filter test (range_with_len 0 (n + 1)))
flat_kept g test n t = sym (flat_one g (filter test (range_with_len 0 n)) n) ∙ ap (flat_map g) (filter_kept test n t)

pub flat_left : {X : Type 0} (g : ℕ → List X) (test : ℕ → Bool) (n : ℕ) → test n ≡ false
    → flat_map g (filter test (range_with_len 0 n)) ≡ flat_map g (filter test (range_with_len 0 (n + 1)))
flat_left g test n t = ap (flat_map g) (filter_left test n t)

-- one more item, which passes or not
pub item_kept : {X : Type 0} (test : X → Bool) (xs : List X) (i : ℕ) (d : X) → i < length xs → test (get_or xs i d) ≡ true → filter test (take i xs)
    ++ get_or xs i d ∷ [] ≡ filter test (take (i + 1) xs)
item_kept test xs i d b t = sym
    (ap (filter test) (take_more xs i d b) ∙ filter-append test (take i xs) (get_or xs i d ∷ [])
    ∙ ap (λ c. filter test (take i xs) ++ cond c (get_or xs i d ∷ []) []) t)

pub item_left : {X : Type 0} (test : X → Bool) (xs : List X) (i : ℕ) (d : X) → i < length xs → test (get_or xs i d) ≡ false
    → filter test (take i xs) ≡ filter test (take (i + 1) xs)
item_left test xs i d b t = sym
    (ap (filter test) (take_more xs i d b) ∙ filter-append test (take i xs) (get_or xs i d ∷ [])
    ∙ ap (λ c. filter test (take i xs) ++ cond c (get_or xs i d ∷ []) []) t ∙ append-nil (filter test (take i xs)))
