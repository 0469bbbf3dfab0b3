-- natural numbers: orders, products, powers
use Rattle.ta_base.proofs.Common.{ℕ, eq-eqb, add-one, ◌<◌, ◌⊎◌, ◌≤◌, zero, inl, inr, arith, suc, ◌*◌, ◌^◌, ◌%◌, ◌-◌, pow_pos, lit<, Bool, cond, ◌+◌, true}
use Rattle.ta_base.proofs.Common.{false, ◌≡◌, eqb, IsTrue, refl, ◌∙◌, ap, sym, ◌≢◌, not, Option, Some, None, max, min, ◌&&◌, nat_lt, ◌/◌, mod-lt, ◌==◌}
use Rattle.ta_base.proofs.Common.{nat_tests, one_shl, props, cases_eq, cases_lt, pow-le-pow_right, is_letter, is_word, map, length, get_or, ne_eqb, eqb-true}
use Rattle.ta_base.proofs.Common.{range_with_len, list_any, IsDistinct, IsDistinct-from_apart, length-le_from_distinct_below, le_of_suc-le-suc, lt_of_not-le}
use Rattle.ta_base.proofs.Common.{lt_of_mul-lt-mul_left, cond_both, cond-true, cond-false, and_left, ltb-true, ltb-false, eqb-false, not-true, div_below}
use Rattle.ta_base.proofs.Common.{get_or-map-range_with_len, length-map-range_with_len, mul-le-mul_right}
use Rattle.std.proofs.lemmas.Map.Views.{Contains-from_any}

pub first_bits_below : (w n : ℕ) → n < w → (1 * 2 ^ n) % 2 ^ w - 1 < 2 ^ n
first_bits_below w n h = let e = one_shl n w h in omega (arith, e, pow_pos n)

-- numbers below a limit are short enough for the laws on digits
pub wide : (n limit : ℕ) → n < limit → limit ≤ 2 ^ 128 → n < 10 ^ 64
wide n limit below small = let large : 2 ^ 128 < 10 ^ 64 = lit< tt in omega arith

-- the mask of the numbers below another that pass
unfoldable pub mask_of : (ℕ → Bool) → ℕ → ℕ
mask_of test zero = 0
mask_of test (suc n) = cond (test 0) 1 0 + 2 * mask_of (λ j. test (suc j)) n

pub bit_small : (t : Bool) → cond t 1 0 < 2
bit_small t = cond_both t 1 0 (λ n. n < 2) (λ _. omega arith) (λ _. omega arith)

pub mask_of-below : (test : ℕ → Bool) (n : ℕ) → mask_of test n < 2 ^ n
unfolding mask_of
mask_of-below test zero = omega arith
mask_of-below test (suc n) = omega (arith, mask_of-below (λ j. test (suc j)) n, bit_small (test 0))

pub mask_of-some : (test : ℕ → Bool) (n j : ℕ) → j < n → test j ≡ true → 1 ≤ mask_of test n
unfolding mask_of
mask_of-some test zero j h t = absurd (omega arith)
mask_of-some test (suc n) zero h t = rw t (omega arith)
mask_of-some test (suc n) (suc j) h t = omega (arith, mask_of-some (λ j. test (suc j)) n j (omega arith) t)

-- ---- sums
pub left_less : (left : ℕ) (d : ℕ) → suc d ≤ left → d ≤ left - 1
left_less left d h = omega arith

pub word_letter : (b : ℕ) → IsTrue (is_letter b) → IsTrue (is_word b)
word_letter b l = rw l refl

pub le-prop : (m n : ℕ) → IsProp (m ≤ n)
le-prop m n = hlevel props

-- how many numbers below another pass
unfoldable pub count : (ℕ → Bool) → ℕ → ℕ
count test zero = 0
count test (suc n) = count test n + cond (test n) 1 0

pub count_most : (test : ℕ → Bool) (n : ℕ) → count test n ≤ n
unfolding count
count_most test zero = omega arith
count_most test (suc n) = omega (arith, count_most test n, bit_small (test n))

one_le_one : (x y : Bool) → (x ≡ true → y ≡ true) → cond x 1 0 ≤ cond y 1 0
one_le_one true y h = rw (h refl) (omega arith)
one_le_one false y h = omega arith

one_lt_one : (x y : Bool) → x ≡ false → y ≡ true → cond x 1 0 + 1 ≤ cond y 1 0
one_lt_one x y e f = rw (e, f) (omega arith)

pub count_more : (f g : ℕ → Bool) (n : ℕ) → ((k : ℕ) → f k ≡ true → g k ≡ true) → count f n ≤ count g n
unfolding count
count_more f g zero h = omega arith
count_more f g (suc n) h = omega (arith, count_more f g n h, one_le_one (f n) (g n) (h n))

pub count_new : (f g : ℕ → Bool) (n k : ℕ) → ((j : ℕ) → f j ≡ true → g j ≡ true) → k < n → f k ≡ false → g k ≡ true → count f n + 1 ≤ count g n
unfolding count
count_new f g zero k h b e t = absurd (omega arith)
count_new f g (suc n) k h b e t = elim (cases_eq k n) [
  | inl q ↦ omega (arith, count_more f g n h, one_lt_one (f n) (g n) (ap f (sym q) ∙ e) (ap g (sym q) ∙ t))
  | inr ne ↦ omega (arith, count_new f g n k h (omega arith) e t, one_le_one (f n) (g n) (h n))
]

power_most : (n : ℕ) → n ≤ 6 → 2 ^ n ≤ 64
power_most n h = let two : 0 < 2 = omega arith in pow-le-pow_right two h

-- the masks of fall guards end below 64
pub end_of_masks : (n : ℕ) → n ≤ 6 → ((1 * 2 ^ n) % 256 ≡ 2 ^ n) × ((1 * 2 ^ n) % 256 ≤ 64) × (1 ≤ (1 * 2 ^ n) % 256)
end_of_masks n h = let e = one_shl n 8 (omega arith) in (e, omega (arith, e, power_most n h), omega (arith, e, pow_pos n))

-- a power of two, as the code counts to it
pub record Shifted (n : ℕ) : Type 0 where
  pub is : (1 * 2 ^ n) % 2 ^ 64 ≡ 2 ^ n
  pub most : 2 ^ n ≤ 64

pub shifted : (n : ℕ) → n ≤ 6 → Shifted n
shifted n h = record { is = one_shl n 64 (omega arith); most = power_most n h }

pub cases_start : (first start : ℕ) → first ≤ start → (first ≡ start) ⊎ (first + 1 ≤ start)
cases_start first start h = elim (cases_eq first start) [ inl e ↦ inl e | inr ne ↦ inr (omega arith) ]

pub untouched : (l from to x y : ℕ) → l ≢ from → l ≢ to → x + cond (eqb l from) 1 0 ≡ y + cond (eqb l to) 1 0 → x ≡ y
untouched l from to x y n m e = grind (arith, nat_tests)

pub below_or_last : (u n : ℕ) → u < n + 1 → (u < n) ⊎ (u ≡ n)
below_or_last u n b = elim (cases_eq u n) [ inl e ↦ inr e | inr ne ↦ inl (omega arith) ]

pub arrives : (from to b c : ℕ) → from ≢ to → b + cond (eqb to from) 1 0 ≡ c + cond (eqb to to) 1 0 → 1 ≤ b
arrives from to b c ne e = grind (arith, nat_tests)

-- a choice by whether two numbers are equal
pub cond_same : {A : Type 0} (x y : ℕ) (m n : A) → x ≡ y → cond (eqb x y) m n ≡ m
cond_same x y m n e = cond-true (eqb x y) m n (eq-eqb x y e)

pub cond_apart : {A : Type 0} (x y : ℕ) (m n : A) → x ≢ y → cond (eqb x y) m n ≡ n
cond_apart x y m n e = cond-false (eqb x y) m n (ne_eqb x y e)

pub not_same : (x y : ℕ) → not (eqb x y) ≡ true → x ≢ y
not_same x y t = eqb-false x y (not-true (eqb x y) t)

weighed : (x n : ℕ) (b : Bool) → x * n + cond b n 0 ≡ (x + cond b 1 0) * n
weighed x n true = omega arith
weighed x n false = omega arith

-- what a counter adds before and after a move
pub item_moves : (x y n : ℕ) (b c : Bool) → y + cond b 1 0 ≡ x + cond c 1 0 → y * n + cond b n 0 ≡ x * n + cond c n 0
item_moves x y n b c e = weighed y n b ∙ ap (λ z. z * n) e ∙ sym (weighed x n c)

-- a place is a number's or isn't
pub at_or_not : (row column r c : ℕ) → ((row ≡ r) × (column ≡ c)) ⊎ ((row ≢ r) ⊎ (column ≢ c))
at_or_not row column r c = elim (cases_eq row r) [
  | inl a ↦ elim (cases_eq column c) [ inl b ↦ inl (a, b) | inr b ↦ inr (inr b) ]
  | inr a ↦ inr (inl a)
]

pub some_or_not : (o : Option ℕ) (k : ℕ) → (o ≡ Some k) ⊎ (o ≢ Some k)
some_or_not None k = inr (λ e. cc)
some_or_not (Some j) k = elim (cases_eq j k) [ inl e ↦ inl (ap (λ (n : ℕ). Some n) e) | inr ne ↦ inr (λ e. ne (cc)) ]

-- no more numbers than room
pub pigeon : (n : ℕ) (f : ℕ → ℕ) (m : ℕ) → ((i : ℕ) → i < m → f i < n) → ((i j : ℕ) → i < j → j < m → f i ≢ f j) → m ≤ n
pigeon n f m below apart =
    let xs = map f (range_with_len 0 m) in
    let long : length xs ≡ m = length-map-range_with_len f 0 m in
    let read : (i d : ℕ) → i < m → get_or xs i d ≡ f i = λ i d h. get_or-map-range_with_len f 0 m i i d h (omega arith) in
    let distinct : IsDistinct eqb xs = IsDistinct-from_apart eqb xs
    (λ i j d h k. rw (read i d (omega arith), read j d (omega arith)) (ne_eqb (f i) (f j) (apart i j h (omega arith)))) in
    let within : (q : ℕ) → list_any (eqb q) xs ≡ true → q < n = λ q found.
    (let at = Contains-from_any {eq = eqb} eqb-true q xs found in let low = at.1 in let h = below at.0 (omega arith) in let e = read at.0 q (omega arith) in
    let e' = at.2 in omega arith) in
    let few = length-le_from_distinct_below xs n distinct within in
    omega arith

-- a test that has one value at one moment and the other at a later one switches between them
pub switches : (f : ℕ → Bool) (v w : Bool) (s t : ℕ) → (v ≡ w → ⊥) → ((i : ℕ) → (f i ≡ v) ⊎ (f i ≡ w)) → s ≤ t → f s ≡ v → f t ≡ w → (i : ℕ) × (s ≤ i) × (i < t)
    × (f i ≡ v) × (f (i + 1) ≡ w)
switches f v w s zero apart either h p q = let e : s ≡ zero = omega arith in absurd (apart (sym p ∙ ap f e ∙ q))
switches f v w s (suc t) apart either h p q = elim (cases_lt s (suc t)) [
  | inl below ↦ elim (either t) [
    | inl here ↦ (t, omega arith, omega arith, here, ap f (add-one t) ∙ q)
    | inr later ↦ let found = switches f v w s t apart either (omega arith) p later in (found.0, found.1, omega arith, found.3, found.4)
  ]
  | inr above ↦ let e : s ≡ suc t = omega arith in absurd (apart (sym p ∙ ap f e ∙ q))
]

unfoldable pub sum_below : (ℕ → ℕ) → ℕ → ℕ
sum_below f zero = 0
sum_below f (suc n) = sum_below f n + f n

-- sums that stand still at a limit
pub capped : (m s f x y r : ℕ) → x ≡ min s m → y ≡ min f m → r ≡ min (x + y) m → r ≡ min (s + f) m
capped m s f x y r a b c = grind (arith, nat_tests)

pub two_bits : (m n : ℕ) → (m ≡ 1 → n ≡ 1) → (n ≡ 1 → m ≡ 1) → m ≤ 1 → n ≤ 1 → m ≡ n
two_bits m n h g b c = grind arith

pub other_number : (j k q r : ℕ) → j ≢ k → (eqb j k && eqb q r) ≡ false
other_number j k q r ne = and_left (eqb j k) (eqb q r) (ne_eqb j k ne)

pub same_number : (k q r : ℕ) → (eqb k k && eqb q r) ≡ eqb q r
same_number k q r = ap (λ t. t && eqb q r) (eq-eqb k k refl)

pub small_is_wide : (n : ℕ) → n < 2 ^ 127 → n < 10 ^ 64
small_is_wide n below = let large : 2 ^ 127 < 10 ^ 64 = lit< tt in omega arith

-- a test of two numbers
pub below_by : (a b : ℕ) (r : Bool) → r ≡ nat_lt a b → r ≡ true → a < b
below_by a b r is e = ltb-true a b (sym is ∙ e)

pub beyond_by : (a b : ℕ) (r : Bool) → r ≡ nat_lt a b → r ≡ false → b ≤ a
beyond_by a b r is e = ltb-false a b (sym is ∙ e)

pub at_most : (a b : ℕ) → (a < b → ⊥) → b ≤ a
at_most a b f = le_of_suc-le-suc (lt_of_not-le f)

-- of two numbers neither is below the other
pub neither_below : (m n : ℕ) → (m < n → ⊥) → (n < m → ⊥) → m ≡ n
neither_below m n low high = omega (arith, at_most m n low, at_most n m high)

positive : (a m n : ℕ) → n < a * m → 0 < m
positive a m n h = lt_of_mul-lt-mul_left a {m = 0} {n = m} (omega arith)

-- the number of a vector gives its first value and the number of the rest
pub quotient_below : (a m n : ℕ) → n < a * m → n / m < a
quotient_below a m n h = div_below n m a (positive a m n h) h

pub rest_below : (a m n : ℕ) → n < a * m → (0 < m) × (n % m < m)
rest_below a m n h = (positive a m n h, mod-lt n (positive a m n h))

pub eqb_same : (c : ℕ) → (c == c) ≡ true
eqb_same c = eq-eqb c c refl

pub max_left : (m n : ℕ) → m ≤ max m n
max_left m n = grind (arith, nat_tests)

pub max_right : (m n : ℕ) → n ≤ max m n
max_right m n = grind (arith, nat_tests)

pub max_is : (m n : ℕ) → (max m n ≡ m) ⊎ (max m n ≡ n)
max_is m n = elim (cases_lt m n) [ inl less ↦ inr (grind (arith, nat_tests)) | inr most ↦ inl (grind (arith, nat_tests)) ]

-- what stands still at a limit, and then at a lower one
pub capped_again : (r s f low high : ℕ) → low ≤ high → r ≡ min s low → s ≡ min f high → r ≡ min f low
capped_again r s f low high h a b = grind (arith, nat_tests)

pub capped_below : (r f low : ℕ) → r ≡ min f low → r ≤ low
capped_below r f low a = grind (arith, nat_tests)

pub below_cap : (f r cap : ℕ) → r ≡ f → r ≤ cap → f ≡ min f cap
below_cap f r cap same below = grind (arith, nat_tests)

-- products that grow with a factor
pub product_most : (m n k s : ℕ) → m ≤ n → s ≤ m * k → s ≤ n * k
product_most m n k s less within = let more = mul-le-mul_right k less in omega arith

pub product_next : (m n all first rest : ℕ) → all ≡ first + rest → first ≤ m → rest ≤ n * m → all ≤ suc n * m
product_next m n all first rest e f g = let next : suc n * m ≡ m + n * m = omega arith in omega arith
