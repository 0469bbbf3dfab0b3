-- numbers in a row, and lists of numbers that rise
use Rattle.ta_base.proofs.Common.{ℕ, ◌≤◌, ◌<◌, ◌+◌, zero, arith, suc, get_or, map, ◌≡◌, ap, ◌∙◌, length, refl, List, [], ◌∷◌, ℤ, slice_get, Some, ◌++◌, Bool}
use Rattle.ta_base.proofs.Common.{filter, cond, pos, true, sym, length-append, false, subst, None, slice_index_or, get_or_past, length-map, map-append}
use Rattle.ta_base.proofs.Common.{filter-append, AllByRecursion, Distinct, In, range_with_len, Rises, get_or_from_slice_get, add-one, ◌-◌, get_or_append_left}
use Rattle.ta_base.proofs.Common.{get_or-append-add, append-nil, same_Some, cond_both, slice_get_past, fill_by_all, get_or-map-range_with_len}
use Rattle.ta_base.proofs.Common.{get_or-range_with_len, length-map-range_with_len, length-range_with_len, slice_get-get_or, cond-true, cond-false}
use Rattle.ta_base.proofs.Common.{append_assoc}
use Rattle.ta_base.proofs.Lists.{filter_shorter, range_more}
use Rattle.ta_base.proofs.Each.{each_in, each_from, each_from_in, each_get_or}
use Rattle.ta_base.proofs.Members.{place_of, in_at, in_map, in_filter, In-map, In-filter}

pub slice_numbers : (k n i : ℕ) → i < n → slice_get (range_with_len k n) i ≡ Some (k + i)
slice_numbers k n i h = slice_get-get_or (range_with_len k n) i 0 (omega (arith, length-range_with_len k n)) ∙ ap Some (get_or-range_with_len k n i 0 h)

pub rises_within : (low high : ℕ) (ls : List ℕ) → Rises low high ls → (j l : ℕ) → slice_get ls j ≡ Some l → (low ≤ l) × (l < high)
rises_within low high [] h j l e = absurd (cc)
rises_within low high (x ∷ ls) h zero l e = let same : x ≡ l = cc in (let a = h.0 in omega arith, let b = h.1 in omega arith)
rises_within low high (x ∷ ls) h (suc j) l e = let w = rises_within (x + 1) high ls h.2 j l e in (let a = h.0 in let b = w.0 in omega arith, w.1)

pub numbers_rise : (k n : ℕ) → Rises k (k + n) (range_with_len k n)
numbers_rise k zero = tt
numbers_rise k (suc n) = (
  omega arith,
  omega arith,
  (let e : k + 1 + n ≡ k + suc n = omega arith in subst (λ (h : ℕ). Rises (k + 1) h (range_with_len (k + 1) n)) e (numbers_rise (k + 1) n)),
)

-- a function's values at numbers in a row
pub at_number : {X : Type 0} (f : ℕ → X) (k n i : ℕ) (d : X) → i < n → get_or (map f (range_with_len k n)) i d ≡ f (k + i)
at_number f k n i d h = get_or-map-range_with_len f k n i (k + i) d h refl

pub In-numbers : (x k n : ℕ) → k ≤ x → x < k + n → In x (range_with_len k n)
In-numbers x k n low high = in_at (range_with_len k n) (x - k) x (slice_numbers k n (x - k) (omega arith) ∙ ap Some (omega arith))

pub at_index : (f : ℕ → ℕ) (n i : ℕ) → i < n → get_or (map f (range_with_len 0 n)) i 0 ≡ f i
at_index f n i h = get_or-map-range_with_len f 0 n i i 0 h (omega arith)

pub past_numbers : (f : ℕ → ℕ) (n i : ℕ) → n ≤ i → get_or (map f (range_with_len 0 n)) i 0 ≡ 0
past_numbers f n i h = get_or_past (map f (range_with_len 0 n)) i 0 (omega (arith, length-map (range_with_len 0 n) f, length-range_with_len 0 n))

-- ---- errors within bounds
pub rises-wider : (low high low' high' : ℕ) (xs : List ℕ) → low' ≤ low → high ≤ high' → Rises low high xs → Rises low' high' xs
rises-wider low high low' high' [] l r h = tt
rises-wider low high low' high' (x ∷ xs) l r h = let here : low ≤ x = h.0 in let below : x < high = h.1 in
    (omega arith, omega arith, rises-wider (x + 1) high (x + 1) high' xs (omega arith) r h.2)

pub rises_apart : (low high : ℕ) (ls : List ℕ) → Rises low high ls → (i j l k : ℕ) → j < i → slice_get ls i ≡ Some l → slice_get ls j ≡ Some k → k < l
rises_apart low high [] h i j l k b at there = absurd (cc)
rises_apart low high (x ∷ ls) h zero j l k b at there = absurd (omega arith)
rises_apart low high (x ∷ ls) h (suc i) zero l k b at there = omega (arith, (rises_within (x + 1) high ls h.2 i l at).0, same_Some x k there)
rises_apart low high (x ∷ ls) h (suc i) (suc j) l k b at there = rises_apart (x + 1) high ls h.2 i j l k (omega arith) at there

pub in_numbers : (x k n : ℕ) → In x (range_with_len k n) → (k ≤ x) × (x < k + n)
in_numbers x k n h = let w = place_of x (range_with_len k n) h in rises_within k (k + n) (range_with_len k n) (numbers_rise k n) w.0 x w.1

pub numbers_more : (k n : ℕ) → range_with_len k (n + 1) ≡ range_with_len k n ++ (k + n) ∷ []
numbers_more k n = ap (range_with_len k) (add-one n) ∙ range_more k n

pub filter_more : (test : ℕ → Bool) (k n : ℕ) → filter test (range_with_len k (n + 1)) ≡ filter test (range_with_len k n)
    ++ cond (test (k + n)) ((k + n) ∷ []) []
filter_more test k n = ap (filter test) (numbers_more k n) ∙ filter-append test (range_with_len k n) ((k + n) ∷ [])

-- numbers that rise are below the end
pub each_below : (low high : ℕ) (xs : List ℕ) → Rises low high xs → AllByRecursion (λ x. x < high) xs
each_below low high xs rises = each_from (λ x. x < high) xs (λ i x at. (rises_within low high xs rises i x at).1)

pub rises_below : (low high : ℕ) (xs : List ℕ) (l : ℕ) → Rises low high xs → In l xs → l < high
rises_below low high xs l r is = each_in (λ x. x < high) xs l (each_below low high xs r) is

pub before_block : (k from u : ℕ) (rest : List ℤ) → u < from → get_or (map (λ k. pos 0) (range_with_len k from) ++ rest) u (pos 0) ≡ pos 0
before_block k from u rest b =
    get_or_append_left (map (λ k. pos 0) (range_with_len k from)) rest (pos 0) u (omega (arith, b, length-map-range_with_len (λ k. pos 0) k from))
    ∙ at_number (λ k. pos 0) k from u (pos 0) b

pub after_zeros : (k from u : ℕ) (rest : List ℤ) (d : ℤ) → get_or (map (λ k. pos 0) (range_with_len k from) ++ rest) (from + u) d ≡ get_or rest u d
after_zeros k from u rest d =
    let zeros = map (λ k. pos 0) (range_with_len k from) in
    subst (λ n. get_or (zeros ++ rest) (n + u) d ≡ get_or rest u d) (length-map-range_with_len (λ k. pos 0) k from) (get_or-append-add zeros rest u d)

-- one more number, which passes or not
kept_more : (test : ℕ → Bool) (n : ℕ) (b : Bool) → test n ≡ b → filter test (range_with_len 0 (n + 1)) ≡ filter test (range_with_len 0 n) ++ cond b (n ∷ []) []
kept_more test n b t =
    let here : 0 + n ≡ n = omega arith in
    filter_more test 0 n ∙ ap (λ k. filter test (range_with_len 0 n) ++ cond (test k) (k ∷ []) []) here
    ∙ ap (λ c. filter test (range_with_len 0 n) ++ cond c (n ∷ []) []) t

pub passed_one : {X : Type 0} (f : ℕ → X) (test : ℕ → Bool) (n : ℕ) → test n ≡ true → map f (filter test (range_with_len 0 n))
    ++ f n ∷ [] ≡ map f (filter test (range_with_len 0 (n + 1)))
passed_one f test n t = sym (ap (map f) (kept_more test n true t) ∙ map-append f (filter test (range_with_len 0 n)) (n ∷ []))

pub count_one : (test : ℕ → Bool) (n : ℕ) → test n ≡ true → length (filter test (range_with_len 0 (n + 1))) ≡ length (filter test (range_with_len 0 n)) + 1
count_one test n t = omega (arith, ap length (kept_more test n true t), length-append (filter test (range_with_len 0 n)) (n ∷ []))

pub passed_none : {X : Type 0} (f : ℕ → X) (test : ℕ → Bool) (n : ℕ) → test n ≡ false
    → map f (filter test (range_with_len 0 n)) ≡ map f (filter test (range_with_len 0 (n + 1)))
passed_none f test n t = sym (ap (map f) (kept_more test n false t ∙ append-nil (filter test (range_with_len 0 n))))

pub count_none : (test : ℕ → Bool) (n : ℕ) → test n ≡ false → length (filter test (range_with_len 0 (n + 1))) ≡ length (filter test (range_with_len 0 n))
count_none test n t = ap length (kept_more test n false t ∙ append-nil (filter test (range_with_len 0 n)))

pub count_few : (test : ℕ → Bool) (n : ℕ) → length (filter test (range_with_len 0 n)) ≤ n
count_few test n = omega (arith, filter_shorter test (range_with_len 0 n), length-range_with_len 0 n)

pub rises_length : (low high : ℕ) (xs : List ℕ) → low ≤ high → Rises low high xs → low + length xs ≤ high
rises_length low high [] b h = omega arith
rises_length low high (x ∷ xs) b h = let first = h.0 in let below = h.1 in omega (arith, rises_length (x + 1) high xs (omega arith) h.2)

pub rises_at : (low high : ℕ) (xs : List ℕ) (i d : ℕ) → Rises low high xs → i < length xs → get_or xs i d < high
rises_at low high xs i d r b = each_get_or (λ x. x < high) xs i d (each_below low high xs r) b

pub rises_filter : (ok : ℕ → Bool) (low high : ℕ) (xs : List ℕ) → Rises low high xs → Rises low high (filter ok xs)
rises_filter ok low high [] r = tt
rises_filter ok low high (x ∷ xs) r =
    let rest = rises_filter ok (x + 1) high xs r.2 in
    let least = r.0 in
    cond_both (ok x) (x ∷ filter ok xs) (filter ok xs) (Rises low high) (λ _. (r.0, r.1, rest))
    (λ _. rises-wider (x + 1) high low high (filter ok xs) (omega arith) (omega arith) rest)

-- functions that agree on numbers that rise
pub alike : {X : Type 0} (f g : ℕ → X) (low high : ℕ) (xs : List ℕ) → Rises low high xs → ((x : ℕ) → low ≤ x → x < high → f x ≡ g x) → map f xs ≡ map g xs
alike f g low high [] r h = refl
alike f g low high (x ∷ xs) r h =
    let first = h x r.0 r.1 in
    let rest = alike f g (x + 1) high xs r.2 (λ y b c. h y (let q = r.0 in omega arith) c) in
    cc

pub each_index : (xs : List ℕ) → map (λ j. get_or xs j 0) (range_with_len 0 (length xs)) ≡ xs
each_index xs = sym (fill_by_all (λ j. get_or xs j 0) xs (length xs) 0 refl (λ k b. refl))

pub numbers_end : (k n i : ℕ) → n ≤ i → slice_get (range_with_len k n) i ≡ None
numbers_end k n i h = slice_get_past (range_with_len k n) i (omega (arith, length-range_with_len k n))

pub filter_numbers_same : (f g : ℕ → Bool) (k n most : ℕ) → ((l : ℕ) → l < most → f l ≡ g l) → k + n ≤ most
    → filter f (range_with_len k n) ≡ filter g (range_with_len k n)
filter_numbers_same f g k zero most same h = refl
filter_numbers_same f g k (suc n) most same h =
    let first = same k (omega arith) in
    let rest = filter_numbers_same f g (k + 1) n most same (omega arith) in
    cc

-- numbers that rise are no more than the numbers below the end
pub rises_length_added : (low high : ℕ) (xs : List ℕ) → low ≤ high → Rises low high xs → length xs + low ≤ high
rises_length_added low high xs within rises = omega (arith, rises_length low high xs within rises)

pub item_at : (f : ℕ → ℤ) (n i : ℕ) → i < n → slice_index_or (map f (range_with_len 0 n)) i (pos 0) ≡ f i
item_at f n i b = get_or-map-range_with_len f 0 n i i (pos 0) b (omega arith)

pub no_item : (f : ℕ → ℤ) (k n i : ℕ) → n ≤ i → slice_index_or (map f (range_with_len k n)) i (pos 0) ≡ pos 0
no_item f k n i b = get_or_past (map f (range_with_len k n)) i (pos 0) (omega (arith, length-map-range_with_len f k n))

pub map_from : (f g : ℕ → ℤ) (low n : ℕ) → ((x : ℕ) → low ≤ x → f x ≡ g x) → map f (range_with_len low n) ≡ map g (range_with_len low n)
map_from f g low n h = alike f g low (low + n) (range_with_len low n) (numbers_rise low n) (λ x least _. h x least)

pub number_here : (k n : ℕ) → k < n → slice_get (range_with_len 0 n) k ≡ Some k
number_here k n b = slice_numbers 0 n k b ∙ ap Some (let e : 0 + k ≡ k = omega arith in e)

pub numbers_get_or : (k n i : ℕ) → i < n → get_or (range_with_len k n) i 0 ≡ k + i
numbers_get_or k n i h = get_or_from_slice_get (range_with_len k n) i (k + i) 0 (slice_numbers k n i h)

pub each_number : (k n : ℕ) → AllByRecursion (λ x. (k ≤ x) × (x < k + n)) (range_with_len k n)
each_number k n = each_from_in (λ x. (k ≤ x) × (x < k + n)) (range_with_len k n) (λ x is. in_numbers x k n is)

-- numbers that rise are distinct
pub rises_distinct : (low high : ℕ) (xs : List ℕ) → Rises low high xs → Distinct xs
rises_distinct low high [] r = tt
rises_distinct low high (x ∷ xs) r =
    (each_from (λ y. x ≡ y → ⊥) xs (λ i y at same. omega (arith, (rises_within (x + 1) high xs r.2 i y at).0)), rises_distinct (x + 1) high xs r.2)

-- what a function gives for the numbers in a row that pass a test
pub passed_length : {X : Type 0} (f : ℕ → X) (test : ℕ → Bool) (k n : ℕ) → length (map f (filter test (range_with_len k n))) ≤ n
passed_length f test k n = omega (arith, length-map (filter test (range_with_len k n)) f, filter_shorter test (range_with_len k n), length-range_with_len k n)

pub passed_most : {X : Type 0} (f : ℕ → X) (test : ℕ → Bool) (before now : List X) (k n : ℕ) → now ≡ before ++ map f (filter test (range_with_len k n))
    → length now ≤ length before + n
passed_most f test before now k n e = omega (arith, ap length e, length-append before (map f (filter test (range_with_len k n))), passed_length f test k n)

pub in_passed : {X : Type 0} (f : ℕ → X) (test : ℕ → Bool) (k n : ℕ) (x : X) → In x (map f (filter test (range_with_len k n))) → (i : ℕ) × (x ≡ f i)
    × (test i ≡ true) × (k ≤ i) × (i < k + n)
in_passed f test k n x h =
    let mapped = in_map f x (filter test (range_with_len k n)) h in
    let kept = in_filter test mapped.0 (range_with_len k n) mapped.1 in
    let within = in_numbers mapped.0 k n kept.1 in
    (mapped.0, mapped.2, kept.0, within.0, within.1)

pub passed_more : {X : Type 0} (f : ℕ → X) (test other : ℕ → Bool) (k n : ℕ) (x : X) → ((i : ℕ) → test i ≡ true → other i ≡ true)
    → In x (map f (filter test (range_with_len k n))) → In x (map f (filter other (range_with_len k n)))
passed_more f test other k n x more h =
    let c = in_passed f test k n x h in
    subst (λ y. In y (map f (filter other (range_with_len k n)))) (sym c.1) (In-map f c.0 _ (In-filter other c.0 _ (more c.0 c.2) (In-numbers c.0 k n c.3 c.4)))

-- a list with what passes among numbers in a row, and one number more
pub pushed_passed : {X : Type 0} (f : ℕ → X) (test : ℕ → Bool) (before now after : List X) (k n : ℕ) → test (k + n) ≡ true → now ≡ before
    ++ map f (filter test (range_with_len k n)) → after ≡ now ++ f (k + n) ∷ [] → after ≡ before ++ map f (filter test (range_with_len k (n + 1)))
pushed_passed f test before now after k n t e g =
    let more : filter test (range_with_len k (n + 1)) ≡ filter test (range_with_len k n) ++ (k + n) ∷ [] = filter_more test k n
    ∙ ap (λ ms. filter test (range_with_len k n) ++ ms) (cond-true (test (k + n)) ((k + n) ∷ []) [] t) in
    g ∙ ap (λ ns. ns ++ f (k + n) ∷ []) e ∙ append_assoc before (map f (filter test (range_with_len k n))) (f (k + n) ∷ [])
    ∙ ap (λ ns. before ++ ns) (sym (map-append f (filter test (range_with_len k n)) ((k + n) ∷ []))) ∙ ap (λ ms. before ++ map f ms) (sym more)

pub left_unpassed : {X : Type 0} (f : ℕ → X) (test : ℕ → Bool) (before now after : List X) (k n : ℕ) → test (k + n) ≡ false → now ≡ before
    ++ map f (filter test (range_with_len k n)) → after ≡ now → after ≡ before ++ map f (filter test (range_with_len k (n + 1)))
left_unpassed f test before now after k n t e g =
    let more : filter test (range_with_len k (n + 1)) ≡ filter test (range_with_len k n) = filter_more test k n
    ∙ ap (λ ms. filter test (range_with_len k n) ++ ms) (cond-false (test (k + n)) ((k + n) ∷ []) [] t) ∙ append-nil (filter test (range_with_len k n)) in
    g ∙ e ∙ ap (λ ms. before ++ map f ms) (sym more)

-- what different numbers give differently has no item twice
one_passed_once : {X : Type 0} (f : ℕ → X) (test : ℕ → Bool) (k n : ℕ) (b : Bool) → ((x y : ℕ) → f x ≡ f y → x ≡ y)
    → Distinct (map f (filter test (range_with_len (k + 1) n)))
    → Distinct (map f (cond b (k ∷ filter test (range_with_len (k + 1) n)) (filter test (range_with_len (k + 1) n))))
one_passed_once f test k n false one d = d
one_passed_once f test k n true one d = (
  each_from_in (λ x. f k ≡ x → ⊥) (map f (filter test (range_with_len (k + 1) n))) (λ x h same.
      let at = in_passed f test (k + 1) n x h in
      let is : k ≡ at.0 = one k at.0 (same ∙ at.1) in
      let low = at.3 in
      absurd (omega arith)
      ),
  d,
)

pub passed_distinct : {X : Type 0} (f : ℕ → X) (test : ℕ → Bool) (k n : ℕ) → ((x y : ℕ) → f x ≡ f y → x ≡ y)
    → Distinct (map f (filter test (range_with_len k n)))
passed_distinct f test k zero one = tt
passed_distinct f test k (suc n) one = one_passed_once f test k n (test k) one (passed_distinct f test (k + 1) n one)

-- the numbers from one to another, of which one more is used
pub counted_on : (i k : ℕ) → i ≤ k → range_with_len i (k + 1 - i) ≡ i ∷ range_with_len (i + 1) (k + 1 - (i + 1))
counted_on i k within =
    let one : k + 1 - i ≡ suc (k + 1 - (i + 1)) = omega (arith, within) in
    ap (range_with_len i) one

pub next_counted : {X T : Type 0} (plain : T → X) (of : ℕ → X) (items : List T) (item : T) (i k : ℕ) (all : List X) → i ≤ k → plain item ≡ of i
    → map plain items ++ map of (range_with_len i (k + 1 - i)) ≡ all → map plain (items ++ item ∷ []) ++ map of (range_with_len (i + 1) (k + 1 - (i + 1))) ≡ all
next_counted plain of items item i k all within is h =
    ap (λ xs. xs ++ map of (range_with_len (i + 1) (k + 1 - (i + 1)))) (map-append plain items (item ∷ []))
    ∙ append_assoc (map plain items) (plain item ∷ []) (map of (range_with_len (i + 1) (k + 1 - (i + 1))))
    ∙ ap (λ x. map plain items ++ (x ∷ map of (range_with_len (i + 1) (k + 1 - (i + 1))))) is
    ∙ ap (λ ns. map plain items ++ map of ns) (sym (counted_on i k within))
    ∙ h

pub few_counted : {X T : Type 0} (plain : T → X) (of : ℕ → X) (items : List T) (k most : ℕ) → k ≤ most → map plain items ≡ map of (range_with_len 1 k)
    → length items ≤ most
few_counted plain of items k most small is = omega
    (arith, small, length-map items plain, ap length is, length-map (range_with_len 1 k) of, length-range_with_len 1 k)
