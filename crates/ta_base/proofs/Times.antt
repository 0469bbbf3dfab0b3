-- how often a number is in a list
use Rattle.ta_base.proofs.Common.{◌≡◌, inl, inr, ℕ, zero, suc, ◌+◌, ◌<◌, ◌≤◌, ℤ, pos, ◌+ℤ◌, ◌*ℤ◌, List, [], ◌∷◌, ◌++◌, length, eqb, cond, Bool, true, Some}
use Rattle.ta_base.proofs.Common.{slice_get, arith, sym, ap, ◌∙◌, refl, zero-add, ints, nat_tests, eqb_tells, cases_Bool, *ℤ-zero, filter, range_with_len}
use Rattle.ta_base.proofs.Common.{Distinct, In, total, times_in, one_if}
use Rattle.ta_base.proofs.Integers.{by_one, distributes}
use Rattle.ta_base.proofs.Lists.{filter_true, filter_false}
use Rattle.ta_base.proofs.Members.{in_at, In-filter}
use Rattle.ta_base.proofs.Each.{each_in, not_in}
use Rattle.ta_base.proofs.Ranges.{In-numbers, numbers_rise, rises_filter, rises_distinct}
use Rattle.ta_base.proofs.Totals.{one_if-same, one_if-other, total-add, total-same, total-zero}

pub times-append : (r : ℕ) (xs ys : List ℕ) → times_in r (xs ++ ys) ≡ times_in r xs + times_in r ys
unfolding times_in
times-append r [] ys = omega arith
times-append r (x ∷ xs) ys = omega (arith, times-append r xs ys)

pub times-push : (q : ℕ) (xs : List ℕ) (r : ℕ) → times_in q (xs ++ r ∷ []) ≡ times_in q xs + cond (eqb r q) 1 0
unfolding times_in
times-push q xs r = omega (arith, times-append q xs (r ∷ []))

pub times-most : (r : ℕ) (xs : List ℕ) → times_in r xs ≤ length xs
unfolding times_in
times-most r [] = omega arith
times-most r (x ∷ xs) = elim (eqb_tells x r) [ inl e ↦ rw e.0 (omega (arith, times-most r xs)) | inr ne ↦ rw ne.0 (omega (arith, times-most r xs)) ]

pub times-none : (r : ℕ) (xs : List ℕ) → (In r xs → ⊥) → times_in r xs ≡ 0
unfolding times_in
times-none r [] h = refl
times-none r (y ∷ ys) h = elim (eqb_tells y r) [ inl e ↦ absurd (h (inl (sym e.1))) | inr ne ↦ rw ne.0 (omega (arith, times-none r ys (λ is. h (inr is)))) ]

pub times-some : (r : ℕ) (xs : List ℕ) → In r xs → 1 ≤ times_in r xs
unfolding times_in
times-some r [] h = absurd h
times-some r (y ∷ ys) (inl e) = let s : eqb y r ≡ true = grind (arith, nat_tests) in rw s (omega arith)
times-some r (y ∷ ys) (inr h) = omega (arith, times-some r ys h)

-- a number that is some times in a list is one of its items
pub times-in : (r : ℕ) (xs : List ℕ) → 1 ≤ times_in r xs → In r xs
unfolding times_in
times-in r [] h = absurd (omega arith)
times-in r (y ∷ ys) h = elim (eqb_tells y r) [ inl e ↦ inl (sym e.1) | inr ne ↦ inr (times-in r ys (let t = rw ne.0 at h in omega arith)) ]

-- distinct numbers are once in their list
pub times-distinct : (r : ℕ) (xs : List ℕ) → Distinct xs → In r xs → times_in r xs ≡ 1
unfolding times_in
times-distinct r [] d h = absurd h
times-distinct r (y ∷ ys) d h = elim (eqb_tells y r) [
  | inl e ↦ rw e.0 (omega (arith, times-none r ys (λ is. each_in (λ z. y ≡ z → ⊥) ys r d.0 is e.1)))
  | inr ne ↦ rw ne.0 (omega (arith, times-distinct r ys d.1 (elim h [ inl e ↦ absurd (ne.1 (sym e)) | inr is ↦ is ])))
]

-- numbers of which none is twice in a list are distinct
pub distinct-times : (xs : List ℕ) → ((r : ℕ) → times_in r xs ≤ 1) → Distinct xs
unfolding times_in
distinct-times [] h = tt
distinct-times (x ∷ xs) h = (
  not_in x xs (λ is. let most = h x in let s : eqb x x ≡ true = grind (arith, nat_tests) in let t = rw s at most in omega (arith, times-some x xs is)),
  distinct-times xs (λ r. omega (arith, h r)),
)

-- a number in a row that passes a test is once among those that pass
pub times-passed : (ok : ℕ → Bool) (x k n : ℕ) → ok x ≡ true → k ≤ x → x < k + n → times_in x (filter ok (range_with_len k n)) ≡ 1
times-passed ok x k n t low high =
    let numbers = range_with_len k n in
    times-distinct x (filter ok numbers) (rises_distinct k (k + n) (filter ok numbers) (rises_filter ok k (k + n) numbers (numbers_rise k n)))
    (In-filter ok x numbers t (In-numbers x k n low high))

pub times-numbers : (x k n : ℕ) → k ≤ x → x < k + n → times_in x (range_with_len k n) ≡ 1
times-numbers x k n low high = times-distinct x (range_with_len k n) (rises_distinct k (k + n) (range_with_len k n) (numbers_rise k n))
    (In-numbers x k n low high)

pub times-filter : (ok : ℕ → Bool) (r : ℕ) (xs : List ℕ) → times_in r (filter ok xs) ≤ times_in r xs
unfolding times_in
times-filter ok r [] = omega arith
times-filter ok r (x ∷ xs) = elim (cases_Bool (ok x)) [
  | inl t ↦ rw (filter_true ok x xs t) (omega (arith, times-filter ok r xs))
  | inr f ↦ rw (filter_false ok x xs f) (omega (arith, times-filter ok r xs))
]

-- ---- sums
one_more : (x r : ℕ) (g : ℤ) (m : ℕ) → (g *ℤ pos (cond (eqb x r) 1 0 + m)) ≡ ((one_if r x *ℤ g) +ℤ (g *ℤ pos m))
one_more x r g m = elim (eqb_tells x r) [
  | inl e ↦ rw (e.0, ← e.1, one_if-same x g)
      (ap (λ z. g *ℤ z) (let s : pos (1 + m) ≡ (pos 1 +ℤ pos m) = omega (arith, ints) in s) ∙ distributes g (pos 1) (pos m)
      ∙ ap (λ z. z +ℤ (g *ℤ pos m)) (by_one g))
  | inr ne ↦ rw (ne.0, one_if-other r x g (λ e. ne.1 (sym e))) (omega (arith, ints, ap (λ z. g *ℤ pos z) (zero-add m)))
]

-- a sum whose parts but those of one number are 0
pub times-total : (g : ℕ → ℤ) (x : ℕ) (rs : List ℕ) → total (λ r. one_if r x *ℤ g r) rs ≡ (g x *ℤ pos (times_in x rs))
unfolding total times_in
times-total g x [] = sym (*ℤ-zero (g x))
times-total g x (r ∷ rs) = elim (eqb_tells r x) [
  | inl e ↦ omega (
    arith,
    ints,
    times-total g x rs,
    one_more r x (g x) (times_in x rs),
    ap (λ z. one_if r x *ℤ g z) e.1,
    ap (λ z. one_if z x *ℤ g x) e.1,
    ap
        (λ z. one_if x z *ℤ g x) e.1,
  )
  | inr ne ↦ omega (
    arith,
    ints,
    times-total g x rs,
    one_more r x (g x) (times_in x rs),
    one_if-other r x (g r) ne.1,
    one_if-other x r (g x)
        (λ e. ne.1 (sym e)),
  )
]

-- each number of the first list is once in the second
abbrev pub EachOnce : List ℕ → List ℕ → Type 0
EachOnce [] rs = Unit {0}
EachOnce (x ∷ xs) rs = (times_in x rs ≡ 1) × EachOnce xs rs

-- the sum over a list of each item's part, times how often the item is in another, is the sum over the other
pub total-by_times : (g : ℕ → ℤ) (rs xs : List ℕ) → EachOnce xs rs → total (λ r. g r *ℤ pos (times_in r xs)) rs ≡ total g xs
unfolding total times_in
total-by_times g rs [] h = total-zero (λ r. g r *ℤ pos 0) rs (λ r. *ℤ-zero (g r))
total-by_times g rs (x ∷ xs) h =
    let split = total-same (λ r. g r *ℤ pos (times_in r (x ∷ xs))) (λ r. (one_if r x *ℤ g r) +ℤ (g r *ℤ pos (times_in r xs))) rs
    (λ r. one_more x r (g r) (times_in r xs)) in
    let parts = total-add (λ r. one_if r x *ℤ g r) (λ r. g r *ℤ pos (times_in r xs)) rs in
    omega (arith, ints, total-by_times g rs xs h.1, split, parts, times-total g x rs, ap (λ z. g x *ℤ pos z) h.0, by_one (g x))

-- a number that is once in a list has one place
pub once_at : (xs : List ℕ) (e i j : ℕ) → times_in e xs ≡ 1 → slice_get xs i ≡ Some e → slice_get xs j ≡ Some e → i ≡ j
unfolding times_in
once_at [] e i j one at bt = absurd (cc)
once_at (x ∷ xs) e zero zero one at bt = refl
once_at (x ∷ xs) e (suc i) (suc j) one at bt = ap suc (once_at xs e i j (let some = times-some e xs (in_at xs i e at) in omega arith) at bt)
once_at (x ∷ xs) e zero (suc j) one at bt = absurd
    (let s : eqb x e ≡ true = (let same : x ≡ e = cc in grind (arith, nat_tests)) in let t = rw s at one in let some = times-some e xs (in_at xs j e bt) in
    omega arith)
once_at (x ∷ xs) e (suc i) zero one at bt = absurd
    (let s : eqb x e ≡ true = (let same : x ≡ e = cc in grind (arith, nat_tests)) in let t = rw s at one in let some = times-some e xs (in_at xs i e at) in
    omega arith)
