-- the pairs of masks: which they are, their order, and one more at its place
use Rattle.ta_implied.proofs.Common.{length, ◌≡◌, inl, inr, ℕ, zero, suc, ◌+◌, ◌-◌, ◌^◌, ◌<◌, ◌≤◌, List, [], ◌∷◌, ◌++◌, map, get_or, true, arith, sym, ap, ◌∙◌}
use Rattle.ta_implied.proofs.Common.{refl, subst, filter, replicate, false≢true, AllByRecursion, has_bit, range_with_len, In, bit_in_masks_below, has_none}
use Rattle.ta_implied.proofs.Common.{no_numbers, some_bit, In-filter, In-left, In-map, In-right, in_append, in_filter, in_map, In-numbers, pairs_at, pairs_from}
use Rattle.ta_base.proofs.Lists.{empty_left, empty_right}

-- a pair of the guards of a mask
in_pairs_at : (j i guard mask : ℕ) → In (j, i) (pairs_at guard mask) → (i ≡ guard) × (has_bit mask j ≡ true)
in_pairs_at j i guard mask h =
    let mapped = in_map (λ k. (k, guard)) (j, i) (filter (has_bit mask) (range_with_len 0 64)) h in
    let kept = in_filter (has_bit mask) mapped.0 (range_with_len 0 64) mapped.1 in
    (ap (λ (q : ℕ × ℕ). q.1) mapped.2, ap (λ (q : ℕ × ℕ). has_bit mask q.0) mapped.2 ∙ kept.0)

pairs_at_in : (j guard mask : ℕ) → j < 64 → has_bit mask j ≡ true → In (j, guard) (pairs_at guard mask)
pairs_at_in j guard mask below has = In-map (λ k. (k, guard)) j (filter (has_bit mask) (range_with_len 0 64))
    (In-filter (has_bit mask) j (range_with_len 0 64) has (In-numbers j 0 64 (omega arith) (omega arith)))

-- a pair of masks is one of the mask of its guard after
in_pairs : (j i k : ℕ) (masks : List ℕ) → In (j, i) (pairs_from k masks) → (k ≤ i) × (has_bit (get_or masks (i - k) 0) j ≡ true)
in_pairs j i k [] h = absurd h
in_pairs j i k (m ∷ ms) h = elim (in_append (j, i) (pairs_at k m) (pairs_from (k + 1) ms) h) [
  | inl here ↦ (let g = in_pairs_at j i k m here in let none : i - k ≡ 0 = omega (arith, g.0) in
      (omega (arith, g.0), ap (λ d. has_bit (get_or (m ∷ ms) d 0) j) none ∙ g.1))
  | inr later ↦ (let g = in_pairs j i (k + 1) ms later in let next : i - k ≡ suc (i - (k + 1)) = omega (arith, g.0) in
      (omega (arith, g.0), ap (λ d. has_bit (get_or (m ∷ ms) d 0) j) next ∙ g.1))
]

pairs_in : (j k d : ℕ) (masks : List ℕ) → j < 64 → has_bit (get_or masks d 0) j ≡ true → In (j, k + d) (pairs_from k masks)
pairs_in j k d [] below has = absurd (false≢true (sym (has_none j) ∙ has))
pairs_in j k zero (m ∷ ms) below has =
    let same : k + 0 ≡ k = omega arith in
    In-left (j, k + 0) (pairs_at k m) (pairs_from (k + 1) ms) (subst (λ i. In (j, i) (pairs_at k m)) (sym same) (pairs_at_in j k m below has))
pairs_in j k (suc d) (m ∷ ms) below has =
    let same : k + suc d ≡ (k + 1) + d = omega arith in
    In-right (j, k + suc d) (pairs_at k m) (pairs_from (k + 1) ms)
    (subst (λ i. In (j, i) (pairs_from (k + 1) ms)) (sym same) (pairs_in j (k + 1) d ms below has))

-- masks of no guards have no pairs
no_pairs_at : (k : ℕ) → pairs_at k 0 ≡ []
no_pairs_at k = ap (map (λ j. (j, k))) (no_numbers (range_with_len 0 64))

pub no_pairs : (k n : ℕ) → pairs_from k (replicate n 0) ≡ []
no_pairs k zero = refl
no_pairs k (suc n) = ap (λ xs. xs ++ pairs_from (k + 1) (replicate n 0)) (no_pairs_at k) ∙ no_pairs (k + 1) n

-- a pair is one of the masks where its guard before is in the mask of its guard after
pub pair_of_bit : (masks : List ℕ) (j i : ℕ) → AllByRecursion (λ m. m < 2 ^ 64) masks → has_bit (get_or masks i 0) j ≡ true → In (j, i) (pairs_from 0 masks)
pair_of_bit masks j i fit has =
    let same : 0 + i ≡ i = omega arith in
    subst (λ g. In (j, g) (pairs_from 0 masks)) same (pairs_in j 0 i masks (bit_in_masks_below 64 masks i j fit has) has)

pub bit_of_pair : (masks : List ℕ) (j i : ℕ) → In (j, i) (pairs_from 0 masks) → has_bit (get_or masks i 0) j ≡ true
bit_of_pair masks j i h =
    let same : i ≡ i - 0 = omega arith in
    ap (λ d. has_bit (get_or masks d 0) j) same ∙ (in_pairs j i 0 masks h).1

-- masks that have no pairs are of no guards
empty_mask : (k m : ℕ) → m < 2 ^ 64 → pairs_at k m ≡ [] → m ≡ 0
empty_mask k zero fits none = refl
empty_mask k (suc m) fits none =
    let w = some_bit (suc m) 64 (omega arith) fits in
    absurd (subst (In (w.0, k)) none (pairs_at_in w.0 k (suc m) w.1 w.2))

empty_masks : (k : ℕ) (masks : List ℕ) → AllByRecursion (λ m. m < 2 ^ 64) masks → pairs_from k masks ≡ [] → masks ≡ replicate (length masks) 0
empty_masks k [] fit none = refl
empty_masks k (m ∷ ms) fit none =
    ap (λ n. n ∷ ms) (empty_mask k m fit.0 (empty_left (pairs_at k m) (pairs_from (k + 1) ms) none))
    ∙ ap (λ xs. 0 ∷ xs) (empty_masks (k + 1) ms fit.1 (empty_right (pairs_at k m) (pairs_from (k + 1) ms) none))

pub all_empty : (masks : List ℕ) → AllByRecursion (λ m. m < 2 ^ 64) masks → length masks ≡ 64 → pairs_from 0 masks ≡ [] → masks ≡ replicate 64 0
all_empty masks fit count none = empty_masks 0 masks fit none ∙ ap (λ n. replicate n 0) count
