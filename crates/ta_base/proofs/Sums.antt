-- sums over numbers and over lists
use Rattle.ta_base.proofs.Common.{ℕ, ℤ, ◌<◌, ◌≡◌, zero, refl, suc, arith, ◌+ℤ◌, pos, inl, inr, cond, eqb, ◌*ℤ◌, ap, ◌∙◌, sym, ◌≤ℤ◌, ◌+◌, ◌≤◌, ◌-ℤ◌, ints}
use Rattle.ta_base.proofs.Common.{zero-*ℤ, cases_eq, Bool, List, count_by, ◌∷◌, sum_by-cons, [], ◌*◌, length, get_or, sum, false, subst, mul-le-mul_left}
use Rattle.ta_base.proofs.Common.{add-mul, eqb_tells, nat_tests, slice_get, Some, same_Some, sum_by, total, one_if, range_with_len, add-one}
use Rattle.ta_base.proofs.Integers.{single, single-elsewhere, single-at}
use Rattle.ta_base.proofs.Lists.{range_split}
use Rattle.ta_base.proofs.Totals.{one_if-other, one_if-same, one_inside, total-add, total-append, total-same, total-shift, total-times, total-within}
use Rattle.ta_base.proofs.Totals.{total-zero}
use Rattle.ta_base.proofs.Naturals.{item_moves, sum_below}

-- ---- the sum of a function over the numbers below another, and over numbers from one on
unfoldable pub range_sum : (ℕ → ℤ) → ℕ → ℤ
range_sum f n = total f (range_with_len 0 n)

unfoldable pub sum_between : ℕ → ℕ → (ℕ → ℤ) → ℤ
sum_between a n f = total f (range_with_len a n)

pub range_sum-same : (f g : ℕ → ℤ) (n : ℕ) → ((x : ℕ) → x < n → f x ≡ g x) → range_sum f n ≡ range_sum g n
unfolding range_sum
range_sum-same f g n h = total-within f g 0 n (λ x _ b. h x (omega arith))

pub range_sum-add : (f g : ℕ → ℤ) (n : ℕ) → range_sum (λ x. f x +ℤ g x) n ≡ (range_sum f n +ℤ range_sum g n)
unfolding range_sum
range_sum-add f g n = total-add f g (range_with_len 0 n)

pub range_sum-zero : (f : ℕ → ℤ) (n : ℕ) → ((x : ℕ) → x < n → f x ≡ pos 0) → range_sum f n ≡ pos 0
unfolding range_sum
range_sum-zero f n h = total-within f (λ _. pos 0) 0 n (λ x _ b. h x (omega arith)) ∙ total-zero (λ _. pos 0) (range_with_len 0 n) (λ _. refl)

pub range_sum-times : (k : ℤ) (f : ℕ → ℤ) (n : ℕ) → range_sum (λ x. k *ℤ f x) n ≡ (k *ℤ range_sum f n)
unfolding range_sum
range_sum-times k f n = total-times k f (range_with_len 0 n)

pub range_sum-nonpositive : (f : ℕ → ℤ) (n : ℕ) → ((x : ℕ) → x < n → f x ≤ℤ pos 0) → range_sum f n ≤ℤ pos 0
unfolding range_sum total
range_sum-nonpositive f n h = from 0 n (λ x b. h x (omega arith)) where
  from : (k m : ℕ) → ((x : ℕ) → x < k + m → f x ≤ℤ pos 0) → total f (range_with_len k m) ≤ℤ pos 0
  from k zero g = omega (arith, ints)
  from k (suc m) g = omega (arith, ints, g k (omega arith), from (k + 1) m (λ x b. g x (omega arith)))

-- the value at 0 taken off
pub range_sum-front : (f : ℕ → ℤ) (n : ℕ) → range_sum f (suc n) ≡ (f 0 +ℤ range_sum (λ x. f (suc x)) n)
unfolding range_sum total
range_sum-front f n = ap (λ z. f 0 +ℤ z) (total-shift f 0 n ∙ total-same (λ x. f (x + 1)) (λ x. f (suc x)) (range_with_len 0 n) (λ x. ap f (add-one x)))

pub sum_between-none : (a : ℕ) (f : ℕ → ℤ) → sum_between a 0 f ≡ pos 0
unfolding sum_between total
sum_between-none a f = refl

pub sum_between-next : (a n : ℕ) (f : ℕ → ℤ) → sum_between a (suc n) f ≡ f a +ℤ sum_between (suc a) n f
unfolding sum_between total
sum_between-next a n f = ap (λ k. f a +ℤ total f (range_with_len k n)) (add-one a)

pub sum-add : (a n : ℕ) (f g : ℕ → ℤ) → sum_between a n (λ w. f w +ℤ g w) ≡ sum_between a n f +ℤ sum_between a n g
unfolding sum_between
sum-add a n f g = total-add f g (range_with_len a n)

pub sum-zero : (a n : ℕ) → sum_between a n (λ _. pos 0) ≡ pos 0
unfolding sum_between
sum-zero a n = total-zero (λ _. pos 0) (range_with_len a n) (λ _. refl)

pub sum-upto : (a n : ℕ) (f g : ℕ → ℤ) → ((w : ℕ) → w < a + n → f w ≡ g w) → sum_between a n f ≡ sum_between a n g
unfolding sum_between
sum-upto a n f g same = total-within f g a n (λ w _ b. same w b)

pub sum-single : (a n u : ℕ) (y : ℤ) (f : ℕ → ℤ) → a ≤ u → u < a + n → sum_between a n (λ w. single u y w *ℤ f w) ≡ y *ℤ f u
unfolding sum_between
sum-single a n u y f h k = total-same (λ w. single u y w *ℤ f w) (λ w. one_if w u *ℤ (y *ℤ f w)) (range_with_len a n) (λ w. elim (cases_eq u w) [
  | inl here ↦ ap (λ z. z *ℤ f w) (single-at u w y here) ∙ sym (ap (λ v. one_if w v *ℤ (y *ℤ f w)) here ∙ one_if-same w (y *ℤ f w))
  | inr other ↦ ap (λ z. z *ℤ f w) (single-elsewhere u w y other) ∙ zero-*ℤ (f w) ∙ sym (one_if-other w u (y *ℤ f w) (λ e. other (sym e)))
]) ∙ one_inside (λ w. y *ℤ f w) a n u h k

pub sum-sub : (a n : ℕ) (f g : ℕ → ℤ) → sum_between a n (λ w. f w -ℤ g w) ≡ sum_between a n f -ℤ sum_between a n g
unfolding sum_between
sum-sub a n f g = omega (
  arith,
  ints,
  total-add (λ w. f w -ℤ g w) g (range_with_len a n),
  total-same (λ w. (f w -ℤ g w) +ℤ g w) f (range_with_len a n)
      (λ w. omega (arith, ints)),
)

pub sum-split : (a n m : ℕ) (f : ℕ → ℤ) → sum_between a (n + m) f ≡ sum_between a n f +ℤ sum_between (a + n) m f
unfolding sum_between
sum-split a n m f = ap (total f) (range_split a n m) ∙ total-append f (range_with_len a n) (range_with_len (a + n) m)

pub one_term : (point : ℕ → ℤ) (a : ℕ) (c : ℤ) (n : ℕ) → a < n → range_sum (λ x. cond (eqb a x) c (pos 0) *ℤ point x) n ≡ (c *ℤ point a)
unfolding range_sum single sum_between total
one_term point a c n b = sum-single 0 n a c point (omega arith) (omega arith)

pub count-cons : (p : ℕ → Bool) (x : ℕ) (xs : List ℕ) → count_by p (x ∷ xs) ≡ cond (p x) 1 0 + count_by p xs
count-cons p x xs = sum_by-cons (λ y. cond (p y) 1 0) x xs

pub sum-ones : (f : ℕ → ℕ) (n : ℕ) → ((e : ℕ) → e < n → f e ≡ 1) → sum_below f n ≡ n
unfolding sum_below
sum-ones f zero h = refl
sum-ones f (suc n) h = omega (arith, sum-ones f n (λ e b. h e (omega arith)), h n (omega arith))

-- ---- the numbers of a list, each times the weight of its place; the first place has number k
unfoldable pub weighted_sum : (ℕ → ℕ) → ℕ → List ℕ → ℕ
weighted_sum h k [] = 0
weighted_sum h k (x ∷ xs) = x * h k + weighted_sum h (k + 1) xs

pub weighted_sum-ones : (k : ℕ) (xs : List ℕ) → weighted_sum (λ _. 1) k xs ≡ sum xs
unfolding weighted_sum
weighted_sum-ones k [] = refl
weighted_sum-ones k (x ∷ xs) = omega (arith, weighted_sum-ones (k + 1) xs, sum_by-cons (λ n. n) x xs)

pub weighted_sum-most : (h : ℕ → ℕ) (m k : ℕ) (xs : List ℕ) → ((l : ℕ) → l < k + length xs → h l ≤ m) → weighted_sum h k xs ≤ sum xs * m
unfolding weighted_sum
weighted_sum-most h m k [] low = omega arith
weighted_sum-most h m k (x ∷ xs) low =
    let here = mul-le-mul_left x (low k (omega arith)) in
    let rest = weighted_sum-most h m (k + 1) xs (λ l b. low l (omega arith)) in
    let all : sum (x ∷ xs) * m ≡ (x + sum xs) * m = ap (λ n. n * m) (sum_by-cons (λ n. n) x xs) in
    omega (arith, add-mul x (sum xs) m)

-- the weight of one place among n
unfoldable only : (ℕ → ℕ) → ℕ → ℕ → ℕ → ℕ
only h k zero l = 0
only h k (suc n) l = cond (eqb k l) (h k) 0 + only h (k + 1) n l

only-outside : (h : ℕ → ℕ) (k n l : ℕ) → l < k → only h k n l ≡ 0
unfolding only
only-outside h k zero l b = refl
only-outside h k (suc n) l b = let s : eqb k l ≡ false = grind (arith, nat_tests) in rw s (omega (arith, only-outside h (k + 1) n l (omega arith)))

only-inside : (h : ℕ → ℕ) (k n l : ℕ) → k ≤ l → l < k + n → only h k n l ≡ h l
unfolding only
only-inside h k zero l low high = absurd (omega arith)
only-inside h k (suc n) l low high = elim (eqb_tells k l) [
  | inl e ↦ (let same : h k ≡ h l = ap h e.1 in rw e.0 (omega (arith, same, only-outside h (k + 1) n l (let q = e.1 in omega arith))))
  | inr ne ↦ rw ne.0 (omega (arith, only-inside h (k + 1) n l (let q = ne.1 in omega arith) (omega arith)))
]

moved_from : (h : ℕ → ℕ) (k from to : ℕ) (xs ys : List ℕ) → length ys ≡ length xs
    → ((l : ℕ) → get_or ys l 0 + cond (eqb (k + l) from) 1 0 ≡ get_or xs l 0 + cond (eqb (k + l) to) 1 0)
    → weighted_sum h k ys + only h k (length xs) from ≡ weighted_sum h k xs + only h k (length xs) to
unfolding weighted_sum only
moved_from h k from to [] [] count moved = refl
moved_from h k from to [] (y ∷ ys) count moved = absurd (omega arith)
moved_from h k from to (x ∷ xs) [] count moved = absurd (omega arith)
moved_from h k from to (x ∷ xs) (y ∷ ys) count moved =
    let head : y + cond (eqb k from) 1 0 ≡ x + cond (eqb k to) 1 0 = subst (λ n. y + cond (eqb n from) 1 0 ≡ x + cond (eqb n to) 1 0)
    (let e : k + 0 ≡ k = omega arith in e) (moved 0) in
    let rest = moved_from h (k + 1) from to xs ys (omega arith)
    (λ l. subst (λ n. get_or ys l 0 + cond (eqb n from) 1 0 ≡ get_or xs l 0 + cond (eqb n to) 1 0) (let e : k + suc l ≡ k + 1 + l = omega arith in e)
    (moved (suc l))) in
    omega (arith, item_moves x y (h k) (eqb k from) (eqb k to) head, rest)

-- one is taken at a place and added at another
pub weighted_sum-moved : (h : ℕ → ℕ) (from to : ℕ) (xs ys : List ℕ) → from < length xs → to < length xs → length ys ≡ length xs
    → ((l : ℕ) → get_or ys l 0 + cond (eqb l from) 1 0 ≡ get_or xs l 0 + cond (eqb l to) 1 0) → weighted_sum h 0 ys + h from ≡ weighted_sum h 0 xs + h to
weighted_sum-moved h from to xs ys a b count moved =
    let all = moved_from h 0 from to xs ys count
    (λ l. subst (λ k. get_or ys l 0 + cond (eqb k from) 1 0 ≡ get_or xs l 0 + cond (eqb k to) 1 0) (let e : l ≡ 0 + l = omega arith in e) (moved l)) in
    omega (arith, all, only-inside h 0 (length xs) from (omega arith) (omega arith), only-inside h 0 (length xs) to (omega arith) (omega arith))

-- ---- sums over the items of a list
pub sum_by-no_more : {X : Type 0} (f g : X → ℕ) (xs : List X) → ((i : ℕ) (x : X) → slice_get xs i ≡ Some x → g x ≤ f x) → sum_by g xs ≤ sum_by f xs
sum_by-no_more f g [] h = omega arith
sum_by-no_more f g (x ∷ xs) h = omega (arith, h 0 x refl, sum_by-no_more f g xs (λ i y at. h (suc i) y at), sum_by-cons f x xs, sum_by-cons g x xs)

pub sum_by-less : {X : Type 0} (f g : X → ℕ) (xs : List X) → ((i : ℕ) (x : X) → slice_get xs i ≡ Some x → g x ≤ f x) → (j : ℕ) (this : X)
    → slice_get xs j ≡ Some this → g this < f this → sum_by g xs < sum_by f xs
sum_by-less f g [] h j this at less = absurd (cc)
sum_by-less f g (x ∷ xs) h zero this at less =
    let here : g x < f x = subst (λ y. g y < f y) (same_Some this x (sym at)) less in
    omega (arith, here, sum_by-no_more f g xs (λ i y there. h (suc i) y there), sum_by-cons f x xs, sum_by-cons g x xs)
sum_by-less f g (x ∷ xs) h (suc j) this at less = omega
    (arith, h 0 x refl, sum_by-less f g xs (λ i y there. h (suc i) y there) j this at less, sum_by-cons f x xs, sum_by-cons g x xs)

pub sum_by-most : {X : Type 0} (f : X → ℕ) (xs : List X) → ((x : X) → f x ≤ 1) → sum_by f xs ≤ length xs
sum_by-most f [] h = omega arith
sum_by-most f (x ∷ xs) h = omega (arith, h x, sum_by-most f xs h, sum_by-cons f x xs)
