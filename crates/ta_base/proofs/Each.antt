-- facts about each item of a list
use Rattle.ta_base.proofs.Common.{ℕ, Bool, List, ◌≡◌, true, IsTrue, [], ◌∷◌, refl, ◌≤◌, length, get_or, arith, sym, ◌∙◌, map, take, ◌+◌, suc, false, All}
use Rattle.ta_base.proofs.Common.{slice_get, Some, zero, subst, ℤ, filter, inl, inr, ◌⊎◌, ◌++◌, Contains, ◌<◌, ap, drop, take-append-drop, set, pos, ◌^◌}
use Rattle.ta_base.proofs.Common.{unsigned_abs, ◌-ℤ◌, replicate, ◌≤ℤ◌, length-append, list_all, AllByRecursion, prefix_len, false≢true, same_Some}
use Rattle.ta_base.proofs.Common.{slice_get-get_or, get_or_from_slice_get, slice_get_within, ints, is_letter, is_word, IsWord, Avoids, EachFrom, Distinct, In}
use Rattle.ta_base.proofs.Common.{range_with_len, get_or-take, All-take, All-drop, All-replicate, All-from_recursion, recursion_from_All, All-set, All-append}
use Rattle.ta_base.proofs.Common.{Contains-append_right, length-prefix_len, AllPass-from_list_all, list_all-from_AllPass, prefix_len_passes}
use Rattle.ta_base.proofs.Common.{length-range_with_len, get_or-range_with_len, cond, slice_range, ◌-◌}
use Rattle.ta_base.proofs.Lists.{get_map, cut_at}
use Rattle.ta_base.proofs.Members.{contains_here, in_get_or, in_append, In-right, In-left, in_at, in_map, in_filter, in_or, place_of, in-here, In-map}
use Rattle.ta_base.proofs.Integers.{less_small}

pub all_at : {X : Type 0} (P : X → Type 0) (xs : List X) (i : ℕ) (x : X) → All P xs → slice_get xs i ≡ Some x → P x
all_at P xs i x all at = subst P (get_or_from_slice_get xs i x x at) (all i x (slice_get_within xs i x at))

pub each_at : {X : Type 0} (P : X → Type 0) (xs : List X) (i : ℕ) (x : X) → AllByRecursion P xs → slice_get xs i ≡ Some x → P x
each_at P xs i x h e = all_at P xs i x (All-from_recursion P xs h) e

pub each_in : {X : Type 0} (P : X → Type 0) (xs : List X) (x : X) → AllByRecursion P xs → In x xs → P x
each_in P xs x all is = let w = place_of x xs is in each_at P xs w.0 x all w.1

pub each_from : {X : Type 0} (P : X → Type 0) (xs : List X) → ((i : ℕ) (x : X) → slice_get xs i ≡ Some x → P x) → AllByRecursion P xs
each_from P xs h = recursion_from_All P xs (λ i d b. h i (get_or xs i d) (slice_get-get_or xs i d b))

pub each_from_in : {X : Type 0} (P : X → Type 0) (xs : List X) → ((x : X) → In x xs → P x) → AllByRecursion P xs
each_from_in P xs h = each_from P xs (λ i x e. h x (in_at xs i x e))

-- each item of a list differs from what isn't in it
pub not_in : {X : Type 0} (x : X) (xs : List X) → (In x xs → ⊥) → AllByRecursion (λ y. x ≡ y → ⊥) xs
not_in x xs none = each_from_in (λ y. x ≡ y → ⊥) xs (λ y is same. none (subst (λ z. In z xs) (sym same) is))

-- a name begins by a letter
pub word_is : (b : ℕ) (bs : List ℕ) → is_letter b ≡ true → list_all is_word (b ∷ bs) ≡ true → IsWord (b ∷ bs)
word_is b bs letter e = record { first = letter; each = recursion_from_All (λ c. IsTrue (is_word c)) (b ∷ bs) (AllPass-from_list_all is_word (b ∷ bs) e) }

pub is_words : (bytes : List ℕ) → IsWord bytes → list_all is_word bytes ≡ true
is_words bytes word = list_all-from_AllPass is_word bytes (All-from_recursion (λ b. IsTrue (is_word b)) bytes word.each)

-- whether bytes that begin by a letter are a name
pub word_tells : (bytes : List ℕ) (r : Bool) → 1 ≤ length bytes → is_letter (get_or bytes 0 0) ≡ true → r ≡ list_all is_word bytes → (IsTrue r → IsWord bytes)
    × (IsWord bytes → IsTrue r)
word_tells [] r some letter e = absurd (omega arith)
word_tells (b ∷ bs) r some letter e = ((λ t. word_is b bs letter (sym e ∙ t)), (λ word. e ∙ is_words (b ∷ bs) word))

-- what each item has, its image has
pub each_map : {X Y : Type 0} (f : X → Y) (P : X → Type 0) (Q : Y → Type 0) (xs : List X) → ((x : X) → P x → Q (f x)) → AllByRecursion P xs
    → AllByRecursion Q (map f xs)
each_map f P Q xs gives each = each_from_in Q (map f xs) (λ y is. let w = in_map f y xs is in subst Q (sym w.2) (gives w.0 (each_in P xs w.0 each w.1)))

pub each_map_all : {X Y : Type 0} (P : Y → Type 0) (f : X → Y) (xs : List X) → ((x : X) → P (f x)) → AllByRecursion P (map f xs)
each_map_all P f xs h = each_from_in P (map f xs) (λ y is. let w = in_map f y xs is in subst P (sym w.2) (h w.0))

pub each_all : {X : Type 0} (P : X → Type 0) (xs : List X) → ((x : X) → P x) → AllByRecursion P xs
each_all P xs h = each_from_in P xs (λ x _. h x)

pub each_weaker : {X : Type 0} (P Q : X → Type 0) (xs : List X) → ((x : X) → P x → Q x) → AllByRecursion P xs → AllByRecursion Q xs
each_weaker P Q xs h all = each_from_in Q xs (λ x is. h x (each_in P xs x all is))

pub each_back : {X : Type 0} (P : X → Type 0) (xs ys : List X) → AllByRecursion P (xs ++ ys) → AllByRecursion P ys
each_back P xs ys h = each_from_in P ys (λ x is. each_in P (xs ++ ys) x h (In-right x xs ys is))

pub each_front : {X : Type 0} (P : X → Type 0) (xs ys : List X) → AllByRecursion P (xs ++ ys) → AllByRecursion P xs
each_front P xs ys h = each_from_in P xs (λ x is. each_in P (xs ++ ys) x h (In-left x xs ys is))

pub each_append : {X : Type 0} (P : X → Type 0) (xs ys : List X) → AllByRecursion P xs → AllByRecursion P ys → AllByRecursion P (xs ++ ys)
each_append P xs ys h g = recursion_from_All P (xs ++ ys) (All-append P xs ys (All-from_recursion P xs h) (All-from_recursion P ys g))

pub each_push : {X : Type 0} (P : X → Type 0) (xs : List X) (x : X) → AllByRecursion P xs → P x → AllByRecursion P (xs ++ x ∷ [])
each_push P xs x h p = each_append P xs (x ∷ []) h (p, tt)

pub all_both : {A : Type 0} (P Q R : A → Type 0) → ((x : A) → P x → Q x → R x) → (xs : List A) → AllByRecursion P xs → AllByRecursion Q xs → AllByRecursion R xs
all_both P Q R f xs p q = each_from_in R xs (λ x is. f x (each_in P xs x p is) (each_in Q xs x q is))

pub all_front : (p : ℕ → Bool) (xs : List ℕ) → AllByRecursion (λ b. IsTrue (p b)) (take (prefix_len p xs) xs)
all_front p xs = recursion_from_All (λ b. IsTrue (p b)) (take (prefix_len p xs) xs) (λ i d b.
    let within : i < prefix_len p xs = omega (arith, b, length-prefix_len p xs) in
    ap p (get_or-take (prefix_len p xs) xs i d within) ∙ prefix_len_passes p xs i d within)

pub each_from_at : {X : Type 0} (P : ℕ → X → Type 0) (k : ℕ) (xs : List X) (i : ℕ) (x : X) → EachFrom P k xs → slice_get xs i ≡ Some x → P (k + i) x
each_from_at P k [] i x h e = absurd (cc)
each_from_at P k (y ∷ ys) zero x h e = let same : y ≡ x = cc in subst (P (k + 0)) same (let n : k ≡ k + 0 = omega arith in subst (λ m. P m y) n h.0)
each_from_at P k (y ∷ ys) (suc i) x h e = let n : k + 1 + i ≡ k + suc i = omega arith in subst (λ m. P m x) n (each_from_at P (k + 1) ys i x h.1 e)

pub each_map_of : {X Y : Type 0} (f : X → Y) (P : Y → Type 0) (xs : List X) → AllByRecursion (λ x. P (f x)) xs → AllByRecursion P (map f xs)
each_map_of f P xs h = each_map f (λ x. P (f x)) P xs (λ x p. p) h

pub each_listed : (P : (ℕ × ℤ) → Type 0) (t : ℕ → Bool) (count : ℕ → ℤ) (ns : List ℕ) → ((n : ℕ) → t n ≡ true → P (n, count n))
    → AllByRecursion P (map {B = ℕ × ℤ} (λ q. (q, count q)) (filter t ns))
each_listed P t count ns h = each_map_of (λ q. (q, count q)) P (filter t ns)
    (each_from_in (λ q. P (q, count q)) (filter t ns) (λ n is. h n (in_filter t n ns is).0))

-- a number is an item that has a property, or differs from each item
pub find_or : (P : ℕ → Type 0) (p : ℕ) (xs : List ℕ) → AllByRecursion P xs → P p ⊎ AllByRecursion (λ y. p ≡ y → ⊥) xs
find_or P p xs h = elim (in_or p xs) [ inl is ↦ inl (each_in P xs p h is) | inr none ↦ inr (not_in p xs none) ]

-- items that the items before them don't contain are distinct
pub distinct_from : (xs : List ℕ) → ((k x : ℕ) → slice_get xs k ≡ Some x → Contains (take k xs) x → ⊥) → Distinct xs
distinct_from [] h = tt
distinct_from (x ∷ xs) h = (
  each_from (λ y. x ≡ y → ⊥) xs (λ k y at e. h (suc k) y at (subst (λ z. Contains (z ∷ take k xs) y) (sym e) (contains_here y (take k xs)))),
  distinct_from xs (λ k y at c. h (suc k) y at (Contains-append_right (x ∷ []) (take k xs) y c)),
)

-- distinct items of a list are no more than its items
pub no_more : {X : Type 0} (xs ys : List X) → Distinct xs → ((x : X) → In x xs → In x ys) → length xs ≤ length ys
no_more [] ys d inside = omega arith
no_more (x ∷ xs) ys d inside =
    let at = place_of x ys (inside x (inl refl)) in
    let front = take at.0 ys in
    let back = drop (suc at.0) ys in
    let is : ys ≡ front ++ x ∷ back = cut_at ys at.0 x at.1 in
    let rest = no_more xs (front ++ back) d.1 (λ z h. elim (in_append z front (x ∷ back) (subst (In z) is (inside z (inr h)))) [
      | inl g ↦ In-left z front back g
      | inr (inl e) ↦ absurd (each_in (λ y. x ≡ y → ⊥) xs z d.0 h (sym e))
      | inr (inr g) ↦ In-right z front back g
    ]) in
    omega (arith, rest, ap length is, length-append front back, length-append front (x ∷ back))

-- distinct numbers below another are at most that many
pub distinct_length : (n : ℕ) (xs : List ℕ) → Distinct xs → AllByRecursion (λ x. x < n) xs → length xs ≤ n
distinct_length n xs d b = omega (arith, no_more xs (range_with_len 0 n) d (λ x is. among x (each_in (λ y. y < n) xs x b is)), length-range_with_len 0 n)
  where
    among : (x : ℕ) → x < n → In x (range_with_len 0 n)
    among x low =
        let same : get_or (range_with_len 0 n) x 0 ≡ x = omega (arith, get_or-range_with_len 0 n x 0 low) in
        subst (λ y. In y (range_with_len 0 n)) same (in_get_or (range_with_len 0 n) x 0 (omega (arith, length-range_with_len 0 n)))

-- an item of distinct ones isn't among those before it
pub not_before : (xs : List ℕ) (n d : ℕ) → Distinct xs → n < length xs → In (get_or xs n d) (take n xs) → ⊥
not_before [] n d e h i = absurd (omega arith)
not_before (x ∷ xs) zero d e h i = i
not_before (x ∷ xs) (suc n) d e h (inl q) = each_in (λ y. x ≡ y → ⊥) xs (get_or xs n d) e.0 (in_get_or xs n d (omega arith)) (sym q)
not_before (x ∷ xs) (suc n) d e h (inr i) = not_before xs n d e.1 (omega arith) i

-- an item of distinct ones has one place
pub distinct_at : {X : Type 0} (xs : List X) (i j : ℕ) (x : X) → Distinct xs → slice_get xs i ≡ Some x → slice_get xs j ≡ Some x → i ≡ j
distinct_at [] i j x d e f = absurd (cc)
distinct_at (y ∷ ys) zero zero x d e f = refl
distinct_at (y ∷ ys) zero (suc j) x d e f = absurd (each_at (λ z. y ≡ z → ⊥) ys j x d.0 f (same_Some y x e))
distinct_at (y ∷ ys) (suc i) zero x d e f = absurd (each_at (λ z. y ≡ z → ⊥) ys i x d.0 e (same_Some y x f))
distinct_at (y ∷ ys) (suc i) (suc j) x d e f = ap suc (distinct_at ys i j x d.1 e f)

-- ---- parts
pub distinct_left : {X : Type 0} (xs ys : List X) → Distinct (xs ++ ys) → Distinct xs
distinct_left [] ys d = tt
distinct_left (x ∷ xs) ys d = (each_front (λ y. x ≡ y → ⊥) xs ys d.0, distinct_left xs ys d.1)

pub distinct_right : {X : Type 0} (xs ys : List X) → Distinct (xs ++ ys) → Distinct ys
distinct_right [] ys d = d
distinct_right (x ∷ xs) ys d = distinct_right xs ys d.1

pub distinct_take : {X : Type 0} (k : ℕ) (xs : List X) → Distinct xs → Distinct (take k xs)
distinct_take {X = X} k xs d = distinct_left (take k xs) (drop k xs) (subst (λ (z : List X). Distinct z) (sym (take-append-drop k xs)) d)

pub distinct_drop : {X : Type 0} (k : ℕ) (xs : List X) → Distinct xs → Distinct (drop k xs)
distinct_drop {X = X} k xs d = distinct_right (take k xs) (drop k xs) (subst (λ (z : List X). Distinct z) (sym (take-append-drop k xs)) d)

pub distinct_range : {X : Type 0} (xs : List X) (from to : ℕ) → Distinct xs → Distinct (slice_range xs from to)
distinct_range xs from to d = distinct_take (to - from) (drop from xs) (distinct_drop from xs d)

-- ---- one more item

pub distinct_append : {X : Type 0} (xs ys : List X) → Distinct xs → Distinct ys → ((x : X) → In x xs → In x ys → ⊥) → Distinct (xs ++ ys)
distinct_append [] ys d e apart = e
distinct_append (x ∷ xs) ys d e apart =
    (each_append (λ y. x ≡ y → ⊥) xs ys d.0 (not_in x ys (apart x (inl refl))), distinct_append xs ys d.1 e (λ z h. apart z (inr h)))

pub distinct_unless : {X : Type 0} (b : Bool) (xs : List X) → Distinct xs → Distinct (cond b [] xs)
distinct_unless true xs d = tt
distinct_unless false xs d = d

-- one more item, from which each of the others differs
pub distinct_push_apart : {X : Type 0} (xs : List X) (x : X) → Distinct xs → AllByRecursion (λ y. y ≡ x → ⊥) xs → Distinct (xs ++ x ∷ [])
distinct_push_apart xs x d h = distinct_append xs (x ∷ []) d (tt, tt)
    (λ y is at. elim at [ inl same ↦ each_in (λ z. z ≡ x → ⊥) xs y h is same | inr none ↦ none ])

-- one more item that was not there before
pub distinct_push : {X : Type 0} (xs : List X) (x : X) → Distinct xs → ((i : ℕ) → slice_get xs i ≡ Some x → ⊥) → Distinct (xs ++ x ∷ [])
distinct_push xs x d h = distinct_push_apart xs x d (each_from (λ y. y ≡ x → ⊥) xs (λ i y at e. h i (at ∙ ap Some e)))

-- items whose images are distinct are distinct
pub distinct_unmap : {X Y : Type 0} (f : X → Y) (xs : List X) → Distinct (map f xs) → Distinct xs
distinct_unmap f [] d = tt
distinct_unmap f (x ∷ xs) d = (
  each_from (λ z. x ≡ z → ⊥) xs (λ i z e same. each_at (λ y. f x ≡ y → ⊥) (map f xs) i (f z) d.0 (get_map f xs i z e) (ap f same)),
  distinct_unmap f xs d.1,
)

pub map_each : {X Y : Type 0} (f : X → Y) (P : Y → Type 0) (xs : List X) → AllByRecursion P (map f xs) → AllByRecursion (λ x. P (f x)) xs
map_each f P xs h = each_from_in (λ x. P (f x)) xs (λ x is. each_in P (map f xs) (f x) h (In-map f x xs is))

-- ---- events one after another

-- one more item with its number
pub each_from-push : {X : Type 0} (P : ℕ → X → Type 0) (k : ℕ) (xs : List X) (x : X) → EachFrom P k xs → P (k + length xs) x → EachFrom P k (xs ++ x ∷ [])
each_from-push P k [] x each here = (subst (λ n. P n x) (omega arith) here, tt)
each_from-push P k (y ∷ ys) x each here = (each.0, each_from-push P (k + 1) ys x each.1 (subst (λ n. P n x) (omega arith) here))

pub each_set : {X : Type 0} (P : X → Type 0) (xs : List X) (i : ℕ) (x : X) → AllByRecursion P xs → P x → AllByRecursion P (set xs i x)
each_set P xs i x h p = recursion_from_All P (set xs i x) (All-set P xs i x p (All-from_recursion P xs h))

pub each_take : {X : Type 0} (P : X → Type 0) (n : ℕ) (xs : List X) → AllByRecursion P xs → AllByRecursion P (take n xs)
each_take P n xs h = recursion_from_All P (take n xs) (All-take P n xs (All-from_recursion P xs h))

pub each_drop : {X : Type 0} (P : X → Type 0) (n : ℕ) (xs : List X) → AllByRecursion P xs → AllByRecursion P (drop n xs)
each_drop P n xs h = recursion_from_All P (drop n xs) (All-drop P n xs (All-from_recursion P xs h))

pub each_get_or : {X : Type 0} (P : X → Type 0) (xs : List X) (i : ℕ) (d : X) → AllByRecursion P xs → i < length xs → P (get_or xs i d)
each_get_or P xs i d h b = All-from_recursion P xs h i d b

pub behind_distinct : (pair : ℕ × ℕ) (pairs : List (ℕ × ℕ)) → Distinct pairs → (In pair pairs → ⊥) → Distinct (pairs ++ pair ∷ [])
behind_distinct pair pairs d none = distinct_append pairs (pair ∷ []) d (tt, tt)
    (λ q is at. elim at [ inl same ↦ none (subst (λ p. In p pairs) same is) | inr never ↦ never ])

pub coefficients_turned : (cs : List ℤ) → AllByRecursion (λ (c : ℤ). unsigned_abs c ≤ 2 ^ 73) cs
    → AllByRecursion (λ (c : ℤ). unsigned_abs c ≤ 2 ^ 73) (map (λ c. pos 0 -ℤ c) cs)
coefficients_turned cs h = each_map (λ c. pos 0 -ℤ c) (λ (c : ℤ). unsigned_abs c ≤ 2 ^ 73) (λ (c : ℤ). unsigned_abs c ≤ 2 ^ 73) cs
    (λ c small. less_small c (2 ^ 73) small) h

-- a number that began is none of those that come
pub others : (number : ℕ) (begun ks : List ℕ) → AllByRecursion (λ k. In k (number ∷ begun) → ⊥) ks → AllByRecursion (λ k. number ≡ k → ⊥) ks
others number begun ks h = each_weaker (λ k. In k (number ∷ begun) → ⊥) (λ k. number ≡ k → ⊥) ks (λ k new same. new (inl (sym same))) h

-- what is new behind one more is new behind the older
pub older_new : (number : ℕ) (begun ks : List ℕ) → AllByRecursion (λ k. In k (number ∷ begun) → ⊥) ks → AllByRecursion (λ k. In k begun → ⊥) ks
older_new number begun ks h = each_weaker (λ k. In k (number ∷ begun) → ⊥) (λ k. In k begun → ⊥) ks (λ k new is. new (inr is)) h

-- numbers that differ from one that began and from the older are new
pub still_new : (number : ℕ) (begun ks : List ℕ) → AllByRecursion (λ k. number ≡ k → ⊥) ks → AllByRecursion (λ k. In k begun → ⊥) ks
    → AllByRecursion (λ k. In k (number ∷ begun) → ⊥) ks
still_new number begun ks apart new = all_both (λ k. number ≡ k → ⊥) (λ k. In k begun → ⊥) (λ k. In k (number ∷ begun) → ⊥)
    (λ k a n is. elim is [ inl e ↦ a (sym e) | inr j ↦ n j ]) ks apart new

-- of a good list of pairs each may join those before it
pub apart_before : (xs rest : List (ℕ × ℕ)) (pair : ℕ × ℕ) → Distinct (xs ++ pair ∷ rest) → In pair xs → ⊥
apart_before [] rest pair distinct there = there
apart_before (x ∷ xs) rest pair distinct (inl is) = each_in (λ z. x ≡ z → ⊥) (xs ++ pair ∷ rest) pair distinct.0 (in-here xs rest pair) (sym is)
apart_before (x ∷ xs) rest pair distinct (inr there) = apart_before xs rest pair distinct.1 there

-- a byte that may not stand in a name stands in none
pub word_avoids : (byte : ℕ) (name : List ℕ) → is_word byte ≡ false → IsWord name → Avoids byte name
word_avoids byte name other word = each_weaker (λ b. IsTrue (is_word b)) (λ b. b ≡ byte → ⊥) name
    (λ b letter same. false≢true (sym other ∙ ap is_word (sym same) ∙ letter)) word.each

-- what stands last and nowhere before it stands at the end
pub last_only : (e : List ℕ) (xs ls later : List (List ℕ)) → AllByRecursion (λ x. x ≡ e → ⊥) xs → xs ++ (e ∷ []) ≡ ls ++ (e ∷ later) → later ≡ []
last_only e [] [] later each eq = cc
last_only e [] (l ∷ []) later each eq = cc
last_only e [] (l ∷ m ∷ ls) later each eq = cc
last_only e (x ∷ xs) [] later each eq = let head : x ≡ e = cc in absurd (each.0 head)
last_only e (x ∷ xs) (l ∷ ls) later each eq = let tail : xs ++ (e ∷ []) ≡ ls ++ (e ∷ later) = cc in last_only e xs ls later each.1 tail

pub each_copies : {X : Type 0} (P : X → Type 0) (k : ℕ) (x : X) → P x → AllByRecursion P (replicate k x)
each_copies P k x h = recursion_from_All P (replicate k x) (All-replicate P k x h)

-- what is known where a run is asked for
pub known_naturals : (vs : List ℕ) → AllByRecursion (λ v. pos 0 ≤ℤ v) (map pos vs)
known_naturals vs = each_map_all (λ v. pos 0 ≤ℤ v) pos vs (λ v. omega (arith, ints))

pub weaker : (low high : ℕ) (ks : List ℕ) → low ≤ high → AllByRecursion (λ k. high ≤ k) ks → AllByRecursion (λ k. low ≤ k) ks
weaker low high ks less each = each_weaker (λ k. high ≤ k) (λ k. low ≤ k) ks (λ k first. omega arith) each

pub above_apart : (number : ℕ) (ks : List ℕ) → AllByRecursion (λ k. number + 1 ≤ k) ks → AllByRecursion (λ k. number ≡ k → ⊥) ks
above_apart number ks low = each_weaker (λ k. number + 1 ≤ k) (λ k. number ≡ k → ⊥) ks (λ k first same. omega arith) low

-- items with distinct images, each at one place
pub distinct_map_at : {X Y : Type 0} (f : X → Y) (xs : List X) (i j : ℕ) (x y : X) → Distinct (map f xs) → slice_get xs i ≡ Some x → slice_get xs j ≡ Some y
    → f x ≡ f y → i ≡ j
distinct_map_at f xs i j x y distinct at there same = distinct_at (map f xs) i j (f x) distinct (get_map f xs i x at)
    (get_map f xs j y there ∙ ap Some (sym same))

-- ---- an item of a list, with the items before it and behind it
pub record Cut {X : Type 0} (x : X) (xs : List X) : Type 0 where
  pub front : List X
  pub behind : List X
  pub cut : xs ≡ front ++ x ∷ behind

pub cut_of : {X : Type 0} (x : X) (xs : List X) → In x xs → Cut x xs
cut_of x xs is = let at = place_of x xs is in record { front = take at.0 xs; behind = drop (suc at.0) xs; cut = cut_at xs at.0 x at.1 }

pub cut_or : (x : ℕ) (xs : List ℕ) → Cut x xs ⊎ AllByRecursion (λ y. x ≡ y → ⊥) xs
cut_or x xs = elim (in_or x xs) [ inl is ↦ inl (cut_of x xs is) | inr none ↦ inr (not_in x xs none) ]

-- the longest run of bytes that pass a test: none stands behind them, or one that fails
abbrev pub Fails : (ℕ → Bool) → List ℕ → Type 0
Fails p [] = Unit {0}
Fails p (b ∷ bs) = p b ≡ false

pub fails_after : (p : ℕ → Bool) (xs : List ℕ) → Fails p (drop (prefix_len p xs) xs)
fails_after p [] = tt
fails_after p (x ∷ xs) = step (p x) refl (fails_after p xs)
  where
    step : (b : Bool) → p x ≡ b → Fails p (drop (prefix_len p xs) xs) → Fails p (drop (cond b (1 + prefix_len p xs) 0) (x ∷ xs))
    step true e h = let s : 1 + prefix_len p xs ≡ suc (prefix_len p xs) = omega arith in rw s h
    step false e h = e

pub longest_unique : (p : ℕ → Bool) (a x b y : List ℕ) → AllByRecursion (λ c. IsTrue (p c)) a → Fails p x → AllByRecursion (λ c. IsTrue (p c)) b → Fails p y → a
    ++ x ≡ b ++ y → (a ≡ b) × (x ≡ y)
longest_unique p [] x [] y all fails all' fails' e = (refl, e)
longest_unique p [] x (c ∷ b) y all fails all' fails' e = absurd (let h : p c ≡ false = subst (Fails p) e fails in let g : p c ≡ true = all'.0 in cc)
longest_unique p (c ∷ a) x [] y all fails all' fails' e = absurd (let h : p c ≡ false = subst (Fails p) (sym e) fails' in let g : p c ≡ true = all.0 in cc)
longest_unique p (c ∷ a) x (d ∷ b) y all fails all' fails' e =
    let same : c ≡ d = cc in
    let rest : a ++ x ≡ b ++ y = cc in
    let r = longest_unique p a x b y all.1 fails all'.1 fails' rest in
    (ap (λ (z : ℕ). z ∷ a) same ∙ ap (λ (z : List ℕ). d ∷ z) r.0, r.1)
