-- numbers of firings as lists for each rule
use Rattle.ta_witness.proofs.Common.{In-numbers, moving_rules, unsigned_abs, item_at, no_item, Counts, firings_in, AreRuleCounts, count_at, listed}
use Rattle.ta_moments.proofs.Common.{Bool, true, false, cond, ◌≡◌, inl, inr, ℕ, ◌+◌, ◌<◌, ◌≤◌, ℤ, pos, negsuc, ◌*ℤ◌, ◌≤ℤ◌, List, [], ◌∷◌, length, filter}
use Rattle.ta_moments.proofs.Common.{slice_get, arith, ints, sym, ap, ◌∙◌, refl, cases_Bool, cases_lt, length-map, length-range_with_len, range_with_len}
use Rattle.ta_moments.proofs.Common.{filter_true, filter_false, In, In-filter, total, Automaton, Pattern, is_moving}

-- the number of a rule
pub listed_at : (a : Automaton) (p : Pattern) (n : Counts) (r : ℕ) → r < length a.rules
    → count_at (listed a p n) r ≡ cond (is_moving p (slice_get a.rules r)) (pos (n r)) (pos 0)
listed_at a p n r b = item_at (λ q. cond (is_moving p (slice_get a.rules q)) (pos (n q)) (pos 0)) (length a.rules) r b

pub natural_or : (b : Bool) (n : ℕ) → (pos 0 ≤ℤ cond b (pos n) (pos 0)) × (cond b (pos n) (pos 0) ≤ℤ pos n)
natural_or true n = (omega (arith, ints), omega (arith, ints))
natural_or false n = (omega (arith, ints), omega (arith, ints))

pub are_listed : (a : Automaton) (p : Pattern) (n : Counts) → AreRuleCounts a (listed a p n)
are_listed a p n = record {
  each_rule = length-map (range_with_len 0 (length a.rules)) (λ q. cond (is_moving p (slice_get a.rules q)) (pos (n q)) (pos 0))
      ∙ length-range_with_len 0 (length a.rules);
  natural = λ r. elim (cases_lt r (length a.rules)) [
    | inl b ↦ (let low = (natural_or (is_moving p (slice_get a.rules r)) (n r)).0 in omega (arith, ints, listed_at a p n r b, low))
    | inr b ↦ omega (arith, ints, no_item (λ q. cond (is_moving p (slice_get a.rules q)) (pos (n q)) (pos 0)) 0 (length a.rules) r b)
  ];
}

-- no number is above the rule's
pub listed_most : (a : Automaton) (p : Pattern) (n : Counts) (r : ℕ) → r < length a.rules → count_at (listed a p n) r ≤ℤ pos (n r)
listed_most a p n r b = let most = (natural_or (is_moving p (slice_get a.rules r)) (n r)).1 in omega (arith, ints, listed_at a p n r b, most)

-- a rule with a number moves
pub listed_moves : (a : Automaton) (p : Pattern) (n : Counts) (r : ℕ) → r < length a.rules → pos 1 ≤ℤ count_at (listed a p n) r → In r (moving_rules a p)
    × (1 ≤ n r)
listed_moves a p n r b h = elim (cases_Bool (is_moving p (slice_get a.rules r))) [
  | inl t ↦ (
    In-filter (λ q. is_moving p (slice_get a.rules q)) r (range_with_len 0 (length a.rules)) t (In-numbers r 0 (length a.rules) (omega arith) (omega arith)),
    (let is : cond (is_moving p (slice_get a.rules r)) (pos (n r)) (pos 0) ≡ pos (n r) = ap (λ c. cond c (pos (n r)) (pos 0)) t in omega
        (arith, ints, h, listed_at a p n r b, is)),
  )
  | inr f ↦ absurd (let is : cond (is_moving p (slice_get a.rules r)) (pos (n r)) (pos 0) ≡ pos 0 = ap (λ c. cond c (pos (n r)) (pos 0)) f in omega
      (arith, ints, h, listed_at a p n r b, is))
]

-- what they add is what the rules that move add
pub total_listed : (f : ℕ → ℤ) (n : Counts) (test : ℕ → Bool) (xs : List ℕ)
    → total (λ r. f r *ℤ cond (test r) (pos (n r)) (pos 0)) xs ≡ total (λ r. f r *ℤ pos (n r)) (filter test xs)
unfolding total
total_listed f n test [] = refl
total_listed f n test (x ∷ xs) = elim (cases_Bool (test x)) [
  | inl t ↦ (
      let here : (f x *ℤ cond (test x) (pos (n x)) (pos 0)) ≡ (f x *ℤ pos (n x)) = ap (λ c. f x *ℤ cond c (pos (n x)) (pos 0)) t in
      rw (filter_true test x xs t) (omega (arith, ints, here, total_listed f n test xs)))
  | inr e ↦ (
      let here : (f x *ℤ cond (test x) (pos (n x)) (pos 0)) ≡ (f x *ℤ pos 0) = ap (λ c. f x *ℤ cond c (pos (n x)) (pos 0)) e in
      rw (filter_false test x xs e) (omega (arith, ints, here, total_listed f n test xs)))
]

-- one firing in all is that of one rule
pub one_in : (rs : List ℕ) (n : Counts) (r : ℕ) → In r rs → n r ≤ firings_in rs n
one_in [] n r i = absurd i
one_in (x ∷ rs) n r (inl e) = let same : n r ≡ n x = ap n e in omega (arith, same)
one_in (x ∷ rs) n r (inr i) = omega (arith, one_in rs n r i)

pub two_in : (rs : List ℕ) (n : Counts) (r q : ℕ) → (r ≡ q → ⊥) → In r rs → In q rs → n r + n q ≤ firings_in rs n
two_in [] n r q apart i j = absurd i
two_in (x ∷ rs) n r q apart (inl e) (inl g) = absurd (apart (e ∙ sym g))
two_in (x ∷ rs) n r q apart (inl e) (inr j) = let same : n r ≡ n x = ap n e in omega (arith, same, one_in rs n q j)
two_in (x ∷ rs) n r q apart (inr i) (inl g) = let same : n q ≡ n x = ap n g in omega (arith, same, one_in rs n r i)
two_in (x ∷ rs) n r q apart (inr i) (inr j) = omega (arith, two_in rs n r q apart i j)

pub abs_one : (z : ℤ) → pos 1 ≤ℤ z → z ≤ℤ pos 1 → unsigned_abs z ≡ 1
abs_one (pos k) low high = omega (arith, ints, low, high)
abs_one (negsuc k) low high = absurd (omega (arith, ints, low))
