-- sets of numbers as masks and as tests
use Rattle.ta_base.proofs.Common.{ℕ, ◌<◌, eqb, max, ◌≡◌, ◌||◌, zero, refl, suc, arith, min, ◌&&◌, true≢false, bit_or, ap, ◌∙◌, bit_and, ◌^◌, ◌==◌, inl, sym}
use Rattle.ta_base.proofs.Common.{inr, false, ◌≤◌, ◌-◌, true, Bool, not, eqb-true, eq-eqb, ◌*◌, ◌%◌, pow_pos, ◌+◌, ◌⊎◌, IsBitSet, ◌/◌, cond, ◌↔◌, List, filter}
use Rattle.ta_base.proofs.Common.{[], ◌∷◌, get_or, ◌≢◌, w128, false≢true, cases_lt, and_cases, bit_at, bit_not, eqb_tells, one_shl, and_le_r, AllByRecursion}
use Rattle.ta_base.proofs.Common.{has_bit, implies, all_below, nat_tests, cases_Bool, Decides-eqb, same_from_decides, ne_eqb, and_parts, subst, cases_eq}
use Rattle.ta_base.proofs.Common.{not-false, not-true, not-not, and_comm, bit_set_by_shift, Decides-below_and, Decides, filter_agree, any_below, add-one}
use Rattle.std.proofs.Math.Pow.{pow-lt}
use Rattle.std.proofs.lemmas.Nat.Bits.{bit_at_or, bit_at-lt, bit_at_and, same_from_bits, bit_at-pow_same, bit_at-pow_other, bit_at-zero, bit_at_above}
use Rattle.std.proofs.lemmas.Nat.Bits.{bit_at_ones, bit_at_lowest, bit_at-suc, bit_at_cat_low, bit_at_not, shr_and_one}
use Rattle.std.proofs.lemmas.Nat.{or_lt}
use Rattle.ta_base.proofs.Naturals.{mask_of, bit_small}
use Rattle.ta_base.proofs.Booleans.{both_ways, implies-from, and_false, either_way}
use Rattle.ta_base.proofs.Lists.{filter_all}

or_max : (x y : ℕ) → x < 2 → y < 2 → eqb (max x y) 1 ≡ (eqb y 1 || eqb x 1)
or_max x y h g = grind (arith, nat_tests)

and_min : (x y : ℕ) → x < 2 → y < 2 → eqb (min x y) 1 ≡ (eqb x 1 && eqb y 1)
and_min x y h g = grind (arith, nat_tests)

same_digit : (x y : ℕ) → x < 2 → y < 2 → eqb x 1 ≡ eqb y 1 → x ≡ y
same_digit x y h g e = grind (arith, nat_tests)

pub set_at : (n i : ℕ) → IsBitSet n i → bit_at n i ≡ 1
set_at n i h = sym (shr_and_one n i) ∙ (bit_set_by_shift n i).1 h

pub at_set : (n i : ℕ) → bit_at n i ≡ 1 → IsBitSet n i
at_set n i h = (bit_set_by_shift n i).0 (shr_and_one n i ∙ h)

pub bit_true : (n i : ℕ) → IsBitSet n i → has_bit n i ≡ true
unfolding has_bit
bit_true n i h = eq-eqb (bit_at n i) 1 (set_at n i h)

pub bit_set : (n i : ℕ) → has_bit n i ≡ true → IsBitSet n i
unfolding has_bit
bit_set n i h = at_set n i (eqb-true (bit_at n i) 1 h)

pub has_or : (a b i : ℕ) → has_bit (bit_or a b) i ≡ (has_bit b i || has_bit a i)
unfolding has_bit
has_or a b i = ap (λ k. eqb k 1) (bit_at_or a b i) ∙ or_max (bit_at a i) (bit_at b i) (bit_at-lt a i) (bit_at-lt b i)

pub has_and : (a b i : ℕ) → has_bit (bit_and a b) i ≡ (has_bit a i && has_bit b i)
unfolding has_bit
has_and a b i = ap (λ k. eqb k 1) (bit_at_and a b i) ∙ and_min (bit_at a i) (bit_at b i) (bit_at-lt a i) (bit_at-lt b i)

pub same_mask : (a b : ℕ) → ((i : ℕ) → has_bit a i ≡ has_bit b i) → a ≡ b
unfolding has_bit
same_mask a b h = same_from_bits a b (λ i. same_digit (bit_at a i) (bit_at b i) (bit_at-lt a i) (bit_at-lt b i) (h i))

pub has_pow : (k i : ℕ) → has_bit (2 ^ k) i ≡ (k == i)
unfolding has_bit
has_pow k i = elim (eqb_tells k i) [
  | inl e ↦ ap (λ b. eqb b 1) (ap (λ j. bit_at (2 ^ k) j) (sym e.1) ∙ bit_at-pow_same k) ∙ sym e.0
  | inr ne ↦ ap (λ b. eqb b 1) (bit_at-pow_other k i (λ e. ne.1 (sym e))) ∙ sym ne.0
]

pub has_none : (i : ℕ) → has_bit 0 i ≡ false
unfolding has_bit
has_none i = ap (λ b. eqb b 1) (bit_at-zero i)

pub has_above : (n k i : ℕ) → n < 2 ^ k → k ≤ i → has_bit n i ≡ false
unfolding has_bit
has_above n k i h g = ap (λ b. eqb b 1) (bit_at_above n k i h g)

pub has_ones : (k i : ℕ) → i < k → has_bit (2 ^ k - 1) i ≡ true
unfolding has_bit
has_ones k i h = ap (λ b. eqb b 1) (bit_at_ones k i h)

and_same : (x y : Bool) → implies x y ≡ true → (x && y) ≡ x
and_same true y e = e
and_same false y e = refl

and_none : (x y : Bool) → implies x (not y) ≡ true → (x && y) ≡ false
and_none true y e = not-true y e
and_none false y e = refl

all_below_tells : (n : ℕ) (test : ℕ → Bool) → Decides (all_below n test) ((k : ℕ) → k < n → test k ≡ true)
unfolding all_below
all_below_tells n test = Decides-below_and test (λ k. test k ≡ true) (λ m. all_below m test) (λ k. (λ t. t, λ t. t)) refl
    (λ m. and_comm (all_below m test) (test m)) n

pub all_below-at : (n : ℕ) (test : ℕ → Bool) → all_below n test ≡ true → (k : ℕ) → k < n → test k ≡ true
all_below-at n test = (all_below_tells n test).0

-- a test of each number below another says the same of each number, where a mask has no bit above
implied : (part n : ℕ) (test : ℕ → Bool) → part < 2 ^ n → all_below n (λ i. implies (has_bit part i) (test i)) ≡ true → (i : ℕ)
    → implies (has_bit part i) (test i) ≡ true
implied part n test b h i = elim (cases_lt i n) [
  | inl below ↦ all_below-at n (λ k. implies (has_bit part k) (test k)) h i below
  | inr above ↦ ap (λ x. implies x (test i)) (has_above part n i b above)
]

pub all_below-from : (n : ℕ) (test : ℕ → Bool) → ((k : ℕ) → k < n → test k ≡ true) → all_below n test ≡ true
all_below-from n test = (all_below_tells n test).1

pub subset : (part whole n : ℕ) → part < 2 ^ n → (bit_and part whole == part) ≡ all_below n (λ i. implies (has_bit part i) (has_bit whole i))
subset part whole n b = both_ways _ _
    (λ e. all_below-from n (λ i. implies (has_bit part i) (has_bit whole i))
    (λ i _. implies-from (has_bit part i) (has_bit whole i)
    (λ t. (and_parts (has_bit part i) (has_bit whole i)
    (sym (has_and part whole i) ∙ ap (λ m. has_bit m i) (eqb-true (bit_and part whole) part e) ∙ t)).1)))
    (λ h. eq-eqb (bit_and part whole) part
    (same_mask (bit_and part whole) part (λ i. has_and part whole i ∙ and_same (has_bit part i) (has_bit whole i) (implied part n (has_bit whole) b h i))))

pub disjoint : (part other n : ℕ) → part < 2 ^ n → (bit_and part other == 0) ≡ all_below n (λ i. implies (has_bit part i) (not (has_bit other i)))
disjoint part other n b = both_ways _ _
    (λ e. all_below-from n (λ i. implies (has_bit part i) (not (has_bit other i)))
    (λ i _. implies-from (has_bit part i) (not (has_bit other i))
    (λ t. ap not (and_false (has_bit part i) (has_bit other i)
    (sym (has_and part other i) ∙ ap (λ m. has_bit m i) (eqb-true (bit_and part other) 0 e) ∙ has_none i) t))))
    (λ h. eq-eqb (bit_and part other) 0
    (same_mask (bit_and part other) 0
    (λ i. has_and part other i ∙ and_none (has_bit part i) (has_bit other i) (implied part n (λ k. not (has_bit other k)) b h i) ∙ sym (has_none i))))

pub set_test : (w mask k : ℕ) → k < w → not (eqb (bit_and mask ((1 * 2 ^ k) % 2 ^ w)) 0) ≡ has_bit mask k
set_test w mask k h =
    ap (λ b. not (eqb (bit_and mask b) 0)) (one_shl k w h)
    ∙ both_ways _ _ (λ t. bit_true mask k (λ e. true≢false (sym t ∙ ap not (eq-eqb (bit_and mask (2 ^ k)) 0 e))))
    (λ t. ap not (ne_eqb (bit_and mask (2 ^ k)) 0 (bit_set mask k t)))

pub with_bit : (w mask k i : ℕ) → k < w → has_bit (bit_or mask ((1 * 2 ^ k) % 2 ^ w)) i ≡ ((k == i) || has_bit mask i)
with_bit w mask k i h = ap (λ b. has_bit (bit_or mask b) i) (one_shl k w h) ∙ has_or mask (2 ^ k) i ∙ ap (λ b. b || has_bit mask i) (has_pow k i)

pub all_below-same : (n : ℕ) (f g : ℕ → Bool) → ((k : ℕ) → k < n → f k ≡ g k) → all_below n f ≡ all_below n g
all_below-same n f g h = both_ways _ _ (λ t. all_below-from n g (λ k b. sym (h k b) ∙ all_below-at n f t k b))
    (λ t. all_below-from n f (λ k b. h k b ∙ all_below-at n g t k b))

-- the mask of the first n numbers
pub first_numbers : (w n : ℕ) (test : ℕ → Bool) → n < w → all_below n (λ i. implies (has_bit ((1 * 2 ^ n) % 2 ^ w - 1) i) (test i)) ≡ all_below n test
first_numbers w n test h = all_below-same n _ _ (λ i b. ap (λ x. implies x (test i)) (ap (λ m. has_bit (m - 1) i) (one_shl n w h) ∙ has_ones n i b))

-- a mask that says of each number below n whether it passes
pub record Told (test : ℕ → Bool) (mask n : ℕ) : Type 0 where
  pub below : (k : ℕ) → k < n → has_bit mask k ≡ test k
  pub above : (k : ℕ) → n ≤ k → has_bit mask k ≡ false

pub none_told : (test : ℕ → Bool) → Told test 0 0
none_told test = record { below = λ k b. absurd (omega arith); above = λ k b. has_none k }

-- one more number, at which alone the mask may change
told_more : (test : ℕ → Bool) (mask more n : ℕ) → Told test mask n → ((k : ℕ) → k ≢ n → has_bit more k ≡ has_bit mask k) → has_bit more n ≡ test n
    → Told test more (n + 1)
told_more test mask more n told other here = record {
  below = λ k b. elim (cases_eq k n) [ inl e ↦ subst (λ j. has_bit more j ≡ test j) (sym e) here | inr ne ↦ other k ne ∙ told.below k (omega arith) ];
  above = λ k b. other k (omega arith) ∙ told.above k (omega arith);
}

pub one_told : (test : ℕ → Bool) (w mask more n : ℕ) → Told test mask n → n < w → test n ≡ true → more ≡ bit_or mask ((1 * 2 ^ n) % 2 ^ w)
    → Told test more (n + 1)
one_told test w mask more n told within passes is = told_more test mask more n told
    (λ k ne. ap (λ m. has_bit m k) is ∙ with_bit w mask n k within ∙ ap (λ b. b || has_bit mask k) (ne_eqb n k (λ e. ne (sym e))))
    (ap (λ m. has_bit m n) is ∙ with_bit w mask n n within ∙ ap (λ b. b || has_bit mask n) (eq-eqb n n refl) ∙ sym passes)

pub not_told : (test : ℕ → Bool) (mask n : ℕ) → Told test mask n → test n ≡ false → Told test mask (n + 1)
not_told test mask n told fails = told_more test mask mask n told (λ k ne. refl) (told.above n (omega arith) ∙ sym fails)

pub all_below-false : (n : ℕ) (test : ℕ → Bool) → all_below n test ≡ false → (k : ℕ) × (k < n) × (test k ≡ false)
unfolding all_below
all_below-false zero test h = absurd (true≢false h)
all_below-false (suc n) test h = elim (and_cases (all_below n test) (test n) h) [
  | inl e ↦ (let w = all_below-false n test e in (w.0, (let b = w.1 in omega arith), w.2))
  | inr e ↦ (n, omega arith, e)
]

-- a mask that isn't 0 has a bit
pub some_bit : (mask n : ℕ) → 1 ≤ mask → mask < 2 ^ n → (j : ℕ) × (j < n) × (has_bit mask j ≡ true)
some_bit mask n least most = elim (cases_Bool (all_below n (λ k. not (has_bit mask k)))) [
  | inl all ↦ absurd (let empty = same_mask mask 0 (λ i. no_bit_at i all ∙ sym (has_none i)) in omega arith)
  | inr some ↦ (let w = all_below-false n (λ k. not (has_bit mask k)) some in (w.0, w.1, not-false (has_bit mask w.0) w.2))
]
  where
    no_bit_at : (i : ℕ) → all_below n (λ k. not (has_bit mask k)) ≡ true → has_bit mask i ≡ false
    no_bit_at i all = elim (cases_lt i n)
        [ inl below ↦ not-true (has_bit mask i) (all_below-at n (λ k. not (has_bit mask k)) all i below) | inr above ↦ has_above mask n i most above ]

odd_part : (b m : ℕ) → b < 2 → (b + 2 * m) % 2 ≡ b
odd_part b m h = omega arith

half_part : (b m : ℕ) → b < 2 → (b + 2 * m) / 2 ≡ m
half_part b m h = omega arith

bit_same : (t : Bool) → eqb (cond t 1 0) 1 ≡ t
bit_same true = refl
bit_same false = refl

pub mask_of-bit : (test : ℕ → Bool) (n j : ℕ) → j < n → has_bit (mask_of test n) j ≡ test j
unfolding has_bit mask_of
mask_of-bit test zero j h = absurd (omega arith)
mask_of-bit test (suc n) zero h =
    ap (λ k. eqb k 1) (bit_at_lowest (mask_of test (suc n)) ∙ odd_part (cond (test 0) 1 0) (mask_of (λ j. test (suc j)) n) (bit_small (test 0)))
    ∙ bit_same (test 0)
mask_of-bit test (suc n) (suc j) h =
    ap (λ k. eqb k 1) (bit_at-suc (mask_of test (suc n)) j
    ∙ ap (λ m. bit_at m j) (half_part (cond (test 0) 1 0) (mask_of (λ j. test (suc j)) n) (bit_small (test 0))))
    ∙ mask_of-bit (λ j. test (suc j)) n j (omega arith)

pub no_bit : (i : ℕ) → IsBitSet 0 i → ⊥
no_bit i b = b refl

-- a bit that is set is below a limit of the mask
pub bit_below : (mask n i : ℕ) → mask < 2 ^ n → IsBitSet mask i → i < n
bit_below mask n i h b = elim (cases_lt i n) [ inl low ↦ low | inr high ↦ absurd (false≢true (sym (has_above mask n i h high) ∙ bit_true mask i b)) ]

pub set_or : (n i : ℕ) → IsBitSet n i ⊎ (IsBitSet n i → ⊥)
set_or n i = elim (eqb_tells (bit_at n i) 1) [ inl e ↦ inl (at_set n i e.1) | inr ne ↦ inr (λ h. ne.1 (set_at n i h)) ]

pub not_set : (n i : ℕ) → (IsBitSet n i → ⊥) → bit_at n i ≡ 0
not_set n i none =
    let other : bit_at n i ≢ 1 = λ one. none (at_set n i one) in
    let low = bit_at-lt n i in
    omega arith

-- a mask without bits from a number on is below that power of 2
pub mask_below : (mask n : ℕ) → ((i : ℕ) → IsBitSet mask i → i < n) → mask < 2 ^ n
mask_below mask n below =
    let least : 1 ≤ 2 ^ n = omega (arith, pow_pos) in
    let rest : mask % 2 ^ n < 2 ^ n = omega arith in
    let split : (mask / 2 ^ n) * 2 ^ n + mask % 2 ^ n ≡ mask = omega arith in
    let same : mask ≡ mask % 2 ^ n = same_from_bits mask (mask % 2 ^ n) (λ i. elim (cases_lt i n) [
      | inl h ↦ ap (λ m. bit_at m i) (sym split) ∙ bit_at_cat_low (mask / 2 ^ n) n (mask % 2 ^ n) i h
      | inr h ↦ not_set mask i (λ b. let low = below i b in absurd (omega arith)) ∙ sym (bit_at_above (mask % 2 ^ n) n i rest h)
    ]) in
    omega arith

-- ---- masks

-- a mask is determined by its bits
pub mask-one : (IsIn : ℕ → Type 0) (m n : ℕ) → ((i : ℕ) → IsBitSet m i ↔ IsIn i) → ((i : ℕ) → IsBitSet n i ↔ IsIn i) → m ≡ n
mask-one IsIn m n p q = same_mask m n (λ i. both_ways _ _
    (λ t. bit_true n i ((q i).1 ((p i).0 (bit_set m i t))))
    (λ t. bit_true m i ((p i).1 ((q i).0 (bit_set n i t)))))

pub no_numbers : (xs : List ℕ) → filter (has_bit 0) xs ≡ []
no_numbers [] = refl
no_numbers (x ∷ xs) = ap (λ b. cond b (x ∷ filter (has_bit 0) xs) (filter (has_bit 0) xs)) (has_none x) ∙ no_numbers xs

-- a mask of numbers below a limit alone has no other bits
pub bit_in_masks_below : (w : ℕ) (masks : List ℕ) (d j : ℕ) → AllByRecursion (λ m. m < 2 ^ w) masks → has_bit (get_or masks d 0) j ≡ true → j < w
bit_in_masks_below w [] d j h has = absurd (false≢true (sym (has_none j) ∙ has))
bit_in_masks_below w (m ∷ ms) zero j h has = bit_below m w j h.0 (bit_set m j has)
bit_in_masks_below w (m ∷ ms) (suc d) j h has = bit_in_masks_below w ms d j h.1 has

pub bit_on : (w mask k : ℕ) → k < w → bit_and mask ((1 * 2 ^ k) % 2 ^ w) ≢ 0 → has_bit mask k ≡ true
bit_on w mask k b h = sym (set_test w mask k b) ∙ elim (eqb_tells (bit_and mask ((1 * 2 ^ k) % 2 ^ w)) 0) [ inl e ↦ absurd (h e.1) | inr ne ↦ ap not ne.0 ]

pub bit_off : (w mask k : ℕ) → k < w → bit_and mask ((1 * 2 ^ k) % 2 ^ w) ≡ 0 → has_bit mask k ≡ false
bit_off w mask k b h = sym (set_test w mask k b) ∙ ap not (eq-eqb (bit_and mask ((1 * 2 ^ k) % 2 ^ w)) 0 h)

pub eqb_turned : (x y : ℕ) → (x == y) ≡ (y == x)
eqb_turned x y = same_from_decides (x == y) (y == x) (Decides-eqb x y) (λ e. sym ((Decides-eqb y x).0 e), λ e. (Decides-eqb y x).1 (sym e))

pub only_bit : (w n k : ℕ) → n < w → has_bit ((1 * 2 ^ n) % 2 ^ w) k ≡ (k == n)
only_bit w n k b = ap (λ m. has_bit m k) (one_shl n w b) ∙ has_pow n k ∙ eqb_turned n k

pub has_no_bit : (w n k : ℕ) → w ≤ n → k < w → has_bit 0 k ≡ (k == n)
has_no_bit w n k b h = has_none k ∙ elim (eqb_tells k n) [ inl e ↦ absurd (let q = e.1 in omega arith) | inr ne ↦ sym ne.0 ]

opposite_digit : (b : ℕ) → b < 2 → eqb (1 - b) 1 ≡ not (eqb b 1)
opposite_digit b h = grind (arith, nat_tests)

pub standing_bit : (mask j : ℕ) → mask < 2 ^ 128 → j < 128 → has_bit (bit_not w128 mask) j ≡ not (has_bit mask j)
unfolding has_bit
standing_bit mask j b h = ap (λ k. eqb k 1) (bit_at_not w128 mask j b h) ∙ opposite_digit (bit_at mask j) (bit_at-lt mask j)

-- no location is kept empty
pub none_kept_empty : (ls : List ℕ) → filter (λ l. not (has_bit 0 l)) ls ≡ ls
none_kept_empty ls = filter_agree (λ l. not (has_bit 0 l)) (λ l. true) (λ l. ap not (has_none l)) ls ∙ filter_all ls

-- the complement of the locations that are left and aren't kept empty
pub left_bit : (empty left l : ℕ) → empty < 2 ^ 128 → left < 2 ^ 128 → l < 128
    → not (has_bit (bit_not w128 (bit_and (bit_not w128 empty) left)) l) ≡ (not (has_bit empty l) && has_bit left l)
left_bit empty left l e f h =
    let b : bit_and (bit_not w128 empty) left < 2 ^ 128 = omega (arith, and_le_r (bit_not w128 empty) left) in
    ap not (standing_bit (bit_and (bit_not w128 empty) left) l b h)
    ∙ not-not (has_bit (bit_and (bit_not w128 empty) left) l)
    ∙ has_and (bit_not w128 empty) left l
    ∙ ap (λ (c : Bool). c && has_bit left l) (standing_bit empty l e h)

-- the mask of one number has no other number
pub lone_bit : (w k l : ℕ) → k < w → IsBitSet (1 * 2 ^ k % 2 ^ w) l → l ≡ k
lone_bit w k l within b = eqb-true l k (sym (only_bit w k l within) ∙ bit_true _ l b)

-- a mask fits that many bits with one of them more
pub with_bit_fits : (w mask k : ℕ) → mask < 2 ^ w → k < w → bit_or mask ((1 * 2 ^ k) % 2 ^ w) < 2 ^ w
with_bit_fits w mask k fits below = or_lt w mask ((1 * 2 ^ k) % 2 ^ w) fits (subst (λ n. n < 2 ^ w) (sym (one_shl k w below)) (pow-lt below))

-- tests with one mask agree
pub mask_of-same : (f g : ℕ → Bool) (n : ℕ) → mask_of f n ≡ mask_of g n → (k : ℕ) → k < n → f k ≡ g k
mask_of-same f g n same k below = sym (mask_of-bit f n k below) ∙ ap (λ m. has_bit m k) same ∙ mask_of-bit g n k below

-- a mask with one more number
abbrev pub IsWith : ℕ → ℕ → ℕ → Type 0
IsWith more mask j = (x : ℕ) → has_bit more x ≡ (eqb j x || has_bit mask x)

pub other_bit : (more mask j x : ℕ) → IsWith more mask j → j ≢ x → has_bit more x ≡ has_bit mask x
other_bit more mask j x is ne = is x ∙ ap (λ b. b || has_bit mask x) (ne_eqb j x ne)

pub own_bit : (more mask j : ℕ) → IsWith more mask j → has_bit more j ≡ true
own_bit more mask j is = is j ∙ ap (λ b. b || has_bit mask j) (eq-eqb j j refl)

-- some number below another passes
pub any_below-at : (n : ℕ) (test : ℕ → Bool) (k : ℕ) → k < n → test k ≡ true → any_below n test ≡ true
any_below-at n test k b t = elim (cases_Bool (all_below n (λ j. not (test j)))) [
  | inl all ↦ absurd (true≢false (sym t ∙ not-true (test k) (all_below-at n (λ j. not (test j)) all k b)))
  | inr f ↦ ap not f
]

-- one number more is tried
any_below-suc : (n : ℕ) (test : ℕ → Bool) → any_below (suc n) test ≡ (test n || any_below n test)
unfolding all_below
any_below-suc n test = either_way (all_below n (λ k. not (test k))) (test n)

pub any_below-next : (n : ℕ) (test : ℕ → Bool) → any_below (n + 1) test ≡ (test n || any_below n test)
any_below-next n test = ap (λ (m : ℕ). any_below m test) (add-one n) ∙ any_below-suc n test

-- no number is below 0
pub any_below-none : (test : ℕ → Bool) → any_below 0 test ≡ false
unfolding all_below
any_below-none test = refl

-- the mask of the numbers below another
pub ones_below : (n : ℕ) → 2 ^ n - 1 < 2 ^ n
ones_below n = omega (arith, pow_pos n)

pub ones_bit : (n k : ℕ) → IsBitSet (2 ^ n - 1) k → k < n
ones_bit n k set = bit_below (2 ^ n - 1) n k (ones_below n) set

-- a mask that differs at one bit, which is set
pub one_bit_more : (mask n more : ℕ) → bit_at more n ≡ 1 → ((i : ℕ) → i ≢ n → bit_at more i ≡ bit_at mask i) → (i : ℕ) → IsBitSet more i
    ↔ (IsBitSet mask i ⊎ (i ≡ n))
one_bit_more mask n more set kept i = (
  λ b. elim (eqb_tells i n) [
    | inl e ↦ inr e.1
    | inr ne ↦ inl (at_set mask i (sym (kept i ne.1) ∙ set_at more i b))
  ],
  λ h. elim (eqb_tells i n) [
    | inl e ↦ at_set more i (ap (bit_at more) e.1 ∙ set)
    | inr ne ↦ elim h [
      | inl b ↦ at_set more i (kept i ne.1 ∙ set_at mask i b)
      | inr e ↦ absurd (ne.1 e)
    ]
  ],
)
