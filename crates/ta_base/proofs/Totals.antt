-- sums of whole numbers over lists, and the numbers that are 1 where two others are equal, else 0
use Rattle.ta_base.proofs.Common.{◌≡◌, ◌≢◌, ◌⊎◌, inl, inr, ℕ, zero, suc, ◌+◌, ◌<◌, ◌≤◌, ℤ, to_z, of_z, w128, pos, ◌+ℤ◌, ◌-ℤ◌, ◌*ℤ◌, ◌≤ℤ◌, List, [], ◌∷◌, ◌++◌}
use Rattle.ta_base.proofs.Common.{length, get_or, set, slice_get, Some, eqb, cond, replicate, sum, unsigned_abs, add-one, arith, sym, ap, ◌∙◌, refl, ints}
use Rattle.ta_base.proofs.Common.{nat_tests, eqb_tells, zero-*ℤ, *ℤ-zero, sum_by-cons, range_with_len, In, Rises, total, one_if, ◌&&◌, true}
use Rattle.ta_base.proofs.Integers.{abs_minus, to_z_abs, distributes, distributes_right, natural, one_times, pos_natural}

-- ---- 1 where two numbers are equal
pub one_if-one : (x : ℕ) → one_if x x ≡ pos 1
one_if-one x = elim (eqb_tells x x) [ inl e ↦ rw e.0 refl | inr ne ↦ absurd (ne.1 refl) ]

pub one_if-ne : (x y : ℕ) → x ≢ y → one_if x y ≡ pos 0
one_if-ne x y h = elim (eqb_tells x y) [ inl e ↦ absurd (h e.1) | inr ne ↦ rw ne.0 refl ]

pub one_if-same : (x : ℕ) (z : ℤ) → (one_if x x *ℤ z) ≡ z
one_if-same x z = rw (one_if-one x) (one_times z)

pub one_if-other : (x y : ℕ) (z : ℤ) → x ≢ y → (one_if x y *ℤ z) ≡ pos 0
one_if-other x y z h = rw (one_if-ne x y h) (zero-*ℤ z)

pub one_if-shift : (n x y : ℕ) → one_if (n + x) (n + y) ≡ one_if x y
one_if-shift n x y = elim (eqb_tells x y) [ inl e ↦ grind (arith, nat_tests) | inr ne ↦ grind (arith, nat_tests) ]

pub one_if-turned : (x y : ℕ) → one_if x y ≡ one_if y x
one_if-turned x y = elim (eqb_tells x y) [ inl e ↦ rw e.1 refl | inr ne ↦ grind (arith, nat_tests) ]

pub one_if-number : (x y : ℕ) → one_if x y ≡ pos (cond (eqb x y) 1 0)
one_if-number x y = elim (eqb_tells x y) [ inl e ↦ rw e.0 refl | inr ne ↦ rw ne.0 refl ]

pub one_if-natural : (x y : ℕ) → pos 0 ≤ℤ one_if x y
one_if-natural x y = omega (arith, ints, one_if-number x y)

pub one_if-most : (x y : ℕ) → one_if x y ≤ℤ pos 1
one_if-most x y = elim (eqb_tells x y) [ inl e ↦ rw e.0 (omega (arith, ints)) | inr ne ↦ rw ne.0 (omega (arith, ints)) ]

pub one_if-small : (x y : ℕ) → unsigned_abs (one_if x y) ≤ 1
one_if-small x y = omega (arith, ints, one_if-natural x y, one_if-most x y)

-- the difference of two such numbers, as the code takes it
pub one_if-difference : (x y z n : ℕ) (a b : ℤ) → a ≡ one_if x z → b ≡ one_if y n
    → to_z w128 (of_z w128 (to_z w128 (of_z w128 a) -ℤ to_z w128 (of_z w128 b))) ≡ (one_if x z -ℤ one_if y n)
one_if-difference x y z n a b e f =
    let first = one_if-small x z in
    let second = one_if-small y n in
    let plain_a : to_z w128 (of_z w128 a) ≡ one_if x z = ap (λ k. to_z w128 (of_z w128 k)) e ∙ to_z_abs (one_if x z) 1 first (omega arith) in
    let plain_b : to_z w128 (of_z w128 b) ≡ one_if y n = ap (λ k. to_z w128 (of_z w128 k)) f ∙ to_z_abs (one_if y n) 1 second (omega arith) in
    ap (λ k. to_z w128 (of_z w128 (k -ℤ to_z w128 (of_z w128 b)))) plain_a ∙ ap (λ k. to_z w128 (of_z w128 (one_if x z -ℤ k))) plain_b
    ∙ to_z_abs (one_if x z -ℤ one_if y n) 2 (abs_minus (one_if x z) (one_if y n) 1 1 first second) (omega arith)

-- a natural number to which one is added at a place, and from which one is taken at another
pub natural-moved : (b from to l n : ℕ) → 1 ≤ n → (l ≡ from → b ≡ n)
    → natural ((pos b +ℤ one_if to l) -ℤ one_if from l) + cond (eqb l from) 1 0 ≡ b + cond (eqb l to) 1 0
natural-moved b from to l n some h =
    let e : pos (natural ((pos b +ℤ one_if to l) -ℤ one_if from l)) ≡ ((pos b +ℤ one_if to l) -ℤ one_if from l) = pos_natural _ (elim (eqb_tells from l) [
      | inl s ↦ (let q = h (sym s.1) in elim (eqb_tells to l) [ inl t ↦ rw (s.0, t.0) (omega (arith, ints)) | inr t ↦ rw (s.0, t.0) (omega (arith, ints)) ])
      | inr s ↦ elim (eqb_tells to l) [ inl t ↦ rw (s.0, t.0) (omega (arith, ints)) | inr t ↦ rw (s.0, t.0) (omega (arith, ints)) ]
    ]) in
    omega (arith, ints, e, one_if-number to l, one_if-turned to l, one_if-number from l, one_if-turned from l, one_if-number l to, one_if-number l from)

-- ---- sums
pub total-append : {X : Type 0} (f : X → ℤ) (xs ys : List X) → total f (xs ++ ys) ≡ (total f xs +ℤ total f ys)
unfolding total
total-append f [] ys = omega (arith, ints)
total-append f (x ∷ xs) ys = omega (arith, ints, total-append f xs ys)

pub total-same : {X : Type 0} (f g : X → ℤ) (xs : List X) → ((x : X) → f x ≡ g x) → total f xs ≡ total g xs
unfolding total
total-same f g [] h = refl
total-same f g (x ∷ xs) h = omega (arith, ints, h x, total-same f g xs h)

pub total-add : {X : Type 0} (f g : X → ℤ) (xs : List X) → total (λ x. f x +ℤ g x) xs ≡ (total f xs +ℤ total g xs)
unfolding total
total-add f g [] = omega (arith, ints)
total-add f g (x ∷ xs) = omega (arith, ints, total-add f g xs)

pub total-zero : {X : Type 0} (f : X → ℤ) (xs : List X) → ((x : X) → f x ≡ pos 0) → total f xs ≡ pos 0
unfolding total
total-zero f [] h = refl
total-zero f (x ∷ xs) h = omega (arith, ints, h x, total-zero f xs h)

pub total-times : {X : Type 0} (k : ℤ) (f : X → ℤ) (xs : List X) → total (λ x. k *ℤ f x) xs ≡ (k *ℤ total f xs)
unfolding total
total-times k f [] = sym (*ℤ-zero k)
total-times k f (x ∷ xs) = omega (arith, ints, total-times k f xs, distributes k (f x) (total f xs))

pub total-swap : {X Y : Type 0} (f : X → Y → ℤ) (xs : List X) (ys : List Y) → total (λ x. total (f x) ys) xs ≡ total (λ y. total (λ x. f x y) xs) ys
unfolding total
total-swap f [] ys = sym (total-zero (λ y. pos 0) ys (λ y. refl))
total-swap f (x ∷ xs) ys = omega (arith, ints, total-swap f xs ys, total-add (f x) (λ y. total (λ z. f z y) xs) ys)

pub total-replicate : {X : Type 0} (f : X → ℤ) (k : ℕ) (x : X) → total f (replicate k x) ≡ (pos k *ℤ f x)
unfolding total
total-replicate f zero x = sym (zero-*ℤ (f x))
total-replicate f (suc k) x =
    let next : pos (suc k) ≡ (pos 1 +ℤ pos k) = omega (arith, ints) in
    omega (arith, ints, total-replicate f k x, ap (λ z. z *ℤ f x) next, distributes_right (pos 1) (pos k) (f x), one_times (f x))

pub total-set : {X : Type 0} (f : X → ℤ) (xs : List X) (i : ℕ) (x d : X) → i < length xs → total f (set xs i x) ≡ ((total f xs +ℤ f x) -ℤ f (get_or xs i d))
unfolding total
total-set f [] i x d b = absurd (omega arith)
total-set f (y ∷ xs) zero x d b = omega (arith, ints)
total-set f (y ∷ xs) (suc i) x d b = omega (arith, ints, total-set f xs i x d (omega arith))

pub total-naturals : (xs : List ℕ) → total pos xs ≡ pos (sum xs)
unfolding total
total-naturals [] = refl
total-naturals (x ∷ xs) = omega (arith, ints, total-naturals xs, sum_by-cons (λ y. y) x xs)

-- ---- sums over numbers in a row
pub total-within : (f g : ℕ → ℤ) (k n : ℕ) → ((r : ℕ) → k ≤ r → r < k + n → f r ≡ g r) → total f (range_with_len k n) ≡ total g (range_with_len k n)
unfolding total
total-within f g k zero h = refl
total-within f g k (suc n) h = omega (arith, ints, h k (omega arith) (omega arith), total-within f g (k + 1) n (λ r low high. h r (omega arith) (omega arith)))

pub total-shift : (f : ℕ → ℤ) (k n : ℕ) → total f (range_with_len (k + 1) n) ≡ total (λ l. f (l + 1)) (range_with_len k n)
unfolding total
total-shift f k zero = refl
total-shift f k (suc n) = ap (λ z. f (k + 1) +ℤ z) (total-shift f (k + 1) n)

-- the sum over the places of a list is that over its items
pub total-items : {X : Type 0} (f : X → ℤ) (d : X) (xs : List X) → total (λ l. f (get_or xs l d)) (range_with_len 0 (length xs)) ≡ total f xs
unfolding total
total-items f d [] = refl
total-items f d (x ∷ xs) =
    let shift = total-shift (λ l. f (get_or (x ∷ xs) l d)) 0 (length xs) in
    let inner = total-same (λ l. f (get_or (x ∷ xs) (l + 1) d)) (λ l. f (get_or xs l d)) (range_with_len 0 (length xs)) (λ l. rw (add-one l) refl) in
    omega (arith, ints, shift, inner, total-items f d xs)

-- a sum over numbers in a row, all of whose parts but one are 0
pub one_outside : (f : ℕ → ℤ) (k n i : ℕ) → (i < k) ⊎ (k + n ≤ i) → total (λ j. one_if j i *ℤ f j) (range_with_len k n) ≡ pos 0
unfolding total
one_outside f k zero i h = refl
one_outside f k (suc n) i h =
    let ne : k ≢ i = λ e. elim h [ inl a ↦ omega arith | inr b ↦ omega arith ] in
    let rest : (i < k + 1) ⊎ (k + 1 + n ≤ i) = elim h [ inl a ↦ inl (omega arith) | inr b ↦ inr (omega arith) ] in
    omega (arith, ints, one_if-other k i (f k) ne, one_outside f (k + 1) n i rest)

pub one_inside : (f : ℕ → ℤ) (k n i : ℕ) → k ≤ i → i < k + n → total (λ j. one_if j i *ℤ f j) (range_with_len k n) ≡ f i
unfolding total
one_inside f k zero i h g = absurd (omega arith)
one_inside f k (suc n) i h g = elim (eqb_tells k i) [
  | inl e ↦ omega (
    arith,
    ints,
    one_outside f (k + 1) n i (inl (let p = e.1 in omega arith)),
    ap (λ z. one_if k z *ℤ f k) (sym e.1),
    one_if-same k (f k),
    ap f
        e.1,
  )
  | inr ne ↦ omega (arith, ints, one_if-other k i (f k) ne.1, one_inside f (k + 1) n i (let p = ne.1 in omega arith) (omega arith))
]

-- ---- sums over numbers that rise
one_above : (f : ℕ → ℤ) (low high : ℕ) (xs : List ℕ) (l : ℕ) → Rises low high xs → l < low → total (λ j. one_if j l *ℤ f j) xs ≡ pos 0
unfolding total
one_above f low high [] l h b = refl
one_above f low high (x ∷ xs) l h b =
    let least : low ≤ x = h.0 in
    omega (arith, ints, one_if-other x l (f x) (λ e. omega arith), one_above f (x + 1) high xs l h.2 (omega arith))

-- all of whose parts but one are 0
pub one_among : (f : ℕ → ℤ) (low high : ℕ) (xs : List ℕ) (l : ℕ) → Rises low high xs → ((In l xs → ⊥) → f l ≡ pos 0) → total (λ j. one_if j l *ℤ f j) xs ≡ f l
unfolding total
one_among f low high [] l h out = sym (out (λ w. w))
one_among f low high (x ∷ xs) l h out = elim (eqb_tells x l) [
  | inl e ↦ omega (
    arith,
    ints,
    one_above f (x + 1) high xs l h.2 (let p = e.1 in omega arith),
    ap (λ z. one_if x z *ℤ f x) (sym e.1),
    one_if-same x (f x),
    ap f
        e.1,
  )
  | inr ne ↦ omega (arith, ints, one_if-other x l (f x) ne.1, one_among f (x + 1) high xs l h.2 (λ w. out (λ v. elim v [ inl e ↦ ne.1 (sym e) | inr g ↦ w g ])))
]

-- each of the numbers is one of those below the end
total-each_once : (f : ℕ → ℤ) (low high : ℕ) (xs : List ℕ) → Rises low high xs
    → total (λ j. total (λ l. one_if j l *ℤ f j) (range_with_len 0 high)) xs ≡ total f xs
unfolding total
total-each_once f low high [] h = refl
total-each_once f low high (x ∷ xs) h =
    let flip = total-same (λ l. one_if x l *ℤ f x) (λ l. one_if l x *ℤ f x) (range_with_len 0 high) (λ l. ap (λ z. z *ℤ f x) (one_if-turned x l)) in
    omega (arith, ints, flip, one_inside (λ _. f x) 0 high x (omega arith) (omega (arith, h.1)), total-each_once f (x + 1) high xs h.2)

-- a sum over numbers that rise is that over all numbers below the end, where the others' parts are 0
pub total-rising : (f : ℕ → ℤ) (high : ℕ) (xs : List ℕ) → Rises 0 high xs → ((l : ℕ) → (In l xs → ⊥) → f l ≡ pos 0)
    → total f xs ≡ total f (range_with_len 0 high)
total-rising f high xs rises out =
    let once = total-each_once f 0 high xs rises in
    let swap = total-swap (λ j l. one_if j l *ℤ f j) xs (range_with_len 0 high) in
    let each = total-same (λ l. total (λ j. one_if j l *ℤ f j) xs) f (range_with_len 0 high) (λ l. one_among f 0 high xs l rises (out l)) in
    omega (arith, ints, once, swap, each)

-- a function that has given values at the items of a list
pub total-listed : (f : ℕ → ℤ) (ls : List ℕ) (zs : List ℤ) → length zs ≡ length ls → ((j l : ℕ) → slice_get ls j ≡ Some l → f l ≡ get_or zs j (pos 0))
    → total f ls ≡ total (λ z. z) zs
unfolding total
total-listed f [] [] same h = refl
total-listed f [] (z ∷ zs) same h = absurd (omega arith)
total-listed f (l ∷ ls) [] same h = absurd (omega arith)
total-listed f (l ∷ ls) (z ∷ zs) same h = omega (arith, ints, h 0 l refl, total-listed f ls zs (omega arith) (λ j k at. h (suc j) k at))

-- a value by whether two numbers are equal
pub one_if-test : (k : ℕ) (y : ℤ) (n : ℕ) → cond (eqb k n && true) y (pos 0) ≡ (one_if n k *ℤ y)
one_if-test k y n = elim (eqb_tells k n) [
  | inl same ↦ rw same.0 (sym (ap (λ j. one_if j k *ℤ y) (sym same.1) ∙ one_if-same k y))
  | inr other ↦ rw other.0 (sym (one_if-other n k y (λ q. other.1 (sym q))))
]
