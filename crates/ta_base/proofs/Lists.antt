-- lists: items by number, parts, maps, filters
use Rattle.ta_base.proofs.Common.{ℕ, List, [], ◌∙◌, sym, append-nil, decimal, ◌<◌, get_or, ◌≡◌, take, zero, suc, ◌∷◌, arith, length, ◌≤◌, subst, ◌-◌, ◌+◌, drop}
use Rattle.ta_base.proofs.Common.{length-drop, ap, ◌++◌, refl, not, eqb, true, rules, tests, ℤ, Bool, Option, if◌then◌else◌, Some, None, false, length-take-le}
use Rattle.ta_base.proofs.Common.{map, append_assoc, IsTrue, pos, ◌≤ℤ◌, ◌<ℤ◌, ◌^◌, negsuc, length-append, false-eqb, filter, get_or-append-add, eq-eqb}
use Rattle.ta_base.proofs.Common.{slice_get, ◌⊎◌, inr, inl, cond, take_at, drop_at, replicate, drop-drop, take-append-drop, ext_get_or, reverse, set, ◌+ℤ◌}
use Rattle.ta_base.proofs.Common.{get_or-set_same, get_or-set_other, ◌≢◌, neg_ℤ, int_div, IsSomeAnd, unsigned_abs, slice_index, ◌==◌, Result, is_ok, OnOk, Ok}
use Rattle.ta_base.proofs.Common.{Err, split_at, take-append-add, take-length, list_all, prefix_len, list_any, range_with_len, slice_split, onto_first}
use Rattle.ta_base.proofs.Common.{and_parts, false≢true, or_cases, cases_lt, cases_eq, none-some, same_Some, slice_get_read, slice_get_within, take-append-le}
use Rattle.ta_base.proofs.Common.{length-map, get_or_append_left, drop_more, get_or-append_right, get_or-replicate, length-replicate, take_more, reverse-append}
use Rattle.ta_base.proofs.Common.{map-append, nat_tests, eqb_tells, signed_decimal, ints, filter-append, IsDecimal, DecimalAt, Avoids, SplitAt, is_letter}
use Rattle.ta_base.proofs.Common.{is_word, BeginsByLetter, take_all as take_all_of_Common, get_or_past as get_or_past_of_List, take-take, length-filter}
use Rattle.ta_base.proofs.Common.{count_by-le-length, get_or_from_slice_get, slice_range, reverse-reverse}
use Rattle.std.proofs.Math.ListN.{get_or-map as get_or-map_of_ListN}
use Rattle.std.proofs.lemmas.List.{replicate-append-replicate, append_cancel_left, take_rest}
use Rattle.std.proofs.lemmas.List.Edits.{fill_by_more}
use Rattle.std.proofs.lemmas.List.Splits.{slice_split-cons_yes, slice_split-cons_no}
use Rattle.ta_base.proofs.Integers.{pos_same, div-one}
use Rattle.std.specs.List.{concat}
use Rattle.std.proofs.lemmas.List.Folds.{concat-append}

-- a number that the bytes are stands first in them
pub whole_at : (limit n : ℕ) (bytes : List ℕ) → IsDecimal limit bytes n → DecimalAt limit bytes n []
whole_at limit n bytes is = record { split = is.text ∙ sym (append-nil (decimal n)); below = is.below; ends = tt }

-- a byte that doesn't occur before a place
pub avoids_before : (byte : ℕ) (bytes : List ℕ) (i : ℕ) → ((k : ℕ) → k < i → get_or bytes k 0 ≡ byte → ⊥) → Avoids byte (take i bytes)
avoids_before byte bytes zero before = tt
avoids_before byte [] (suc i) before = tt
avoids_before byte (b ∷ bs) (suc i) before = (before 0 (omega arith), avoids_before byte bs i (λ k low. before (suc k) (omega arith)))

-- a byte that doesn't occur at all
pub avoids_all : (byte : ℕ) (bytes : List ℕ) (i : ℕ) → length bytes ≤ i → ((k : ℕ) → k < i → get_or bytes k 0 ≡ byte → ⊥) → Avoids byte bytes
avoids_all byte bytes i all before = subst (Avoids byte) (take_all_of_Common i bytes all) (avoids_before byte bytes i before)

-- a text is parted at its first such byte
pub parted_at : (byte : ℕ) (bytes : List ℕ) (i : ℕ) → i < length bytes → get_or bytes i 0 ≡ byte → ((k : ℕ) → k < i → get_or bytes k 0 ≡ byte → ⊥)
    → SplitAt byte bytes (take i bytes) (take (length bytes - (i + 1)) (drop (i + 1) bytes))
parted_at byte bytes i within here before =
    let rest : take (length bytes - (i + 1)) (drop (i + 1) bytes) ≡ drop (i + 1) bytes = take_all_of_Common (length bytes - (i + 1)) (drop (i + 1) bytes)
    (omega (arith, length-drop (i + 1) bytes)) in
    let next : i + 1 ≡ suc i = omega arith in
    record {
      split = split_at bytes i 0 within ∙ ap (λ b. take i bytes ++ (b ∷ drop (suc i) bytes)) here ∙ ap (λ n. take i bytes ++ (byte ∷ drop n bytes)) (sym next)
          ∙ ap (λ xs. take i bytes ++ (byte ∷ xs)) (sym rest);
      first = avoids_before byte bytes i before;
    }

-- what two texts avoid, their sum avoids
pub avoids-append : (byte : ℕ) (xs ys : List ℕ) → Avoids byte xs → Avoids byte ys → Avoids byte (xs ++ ys)
avoids-append byte [] ys u v = v
avoids-append byte (x ∷ xs) ys u v = (u.0, avoids-append byte xs ys u.1 v)

-- the first such byte of a text
pub first_byte : (byte : ℕ) (xs ys p q : List ℕ) → Avoids byte xs → Avoids byte ys → xs ++ (byte ∷ p) ≡ ys ++ (byte ∷ q) → (xs ≡ ys) × (p ≡ q)
first_byte byte [] [] p q u v e = (refl, cc)
first_byte byte [] (y ∷ ys) p q u v e = let head : y ≡ byte = cc in absurd (v.0 head)
first_byte byte (x ∷ xs) [] p q u v e = let head : x ≡ byte = cc in absurd (u.0 head)
first_byte byte (x ∷ xs) (y ∷ ys) p q u v e =
    let head : x ≡ y = cc in
    let tail : xs ++ (byte ∷ p) ≡ ys ++ (byte ∷ q) = cc in
    let more = first_byte byte xs ys p q u.1 v.1 tail in
    let same = more.0 in
    (cc, more.1)

-- a text that avoids a byte isn't parted at it
pub not_parted : (byte : ℕ) (xs ys rest : List ℕ) → Avoids byte rest → rest ≡ xs ++ (byte ∷ ys) → ⊥
not_parted byte [] ys [] u e = cc
not_parted byte [] ys (b ∷ rest) u e = let head : b ≡ byte = cc in u.0 head
not_parted byte (x ∷ xs) ys [] u e = cc
not_parted byte (x ∷ xs) ys (b ∷ rest) u e = let tail : rest ≡ xs ++ (byte ∷ ys) = cc in not_parted byte xs ys rest u.1 tail

-- another byte
other_byte : (byte b : ℕ) → not (eqb b byte) ≡ true → b ≡ byte → ⊥
other_byte byte b e same = search (rules, tests)

-- a byte that known bytes are not
pub avoids_known : (byte : ℕ) (bs : List ℕ) → list_all (λ b. not (eqb b byte)) bs ≡ true → Avoids byte bs
avoids_known byte [] e = tt
avoids_known byte (b ∷ bs) e = let parts = and_parts (not (eqb b byte)) (list_all (λ c. not (eqb c byte)) bs) e in
    (other_byte byte b parts.0, avoids_known byte bs parts.1)

-- a search that finds nothing passed over the first file and found nothing later
pub passed_over : (b : Bool) (bytes : List ℕ) (later : Option (List ℕ)) → (if b then Some bytes else later) ≡ None → (b ≡ false) × (later ≡ None)
passed_over true bytes later none = absurd (none-some bytes (sym none))
passed_over false bytes later none = (refl, none)

-- a part of a buffer behind its first bytes was filled in part
pub filled_more : (a n : ℕ) (xs ys behind : List ℕ) → a ≤ length xs → n ≤ length ys → take (a + n) (take a xs ++ (ys ++ behind)) ≡ take a xs ++ take n ys
filled_more a n xs ys behind fits few =
    let size : length (take a xs) ≡ a = length-take-le a xs fits in
    ap (λ k. take (k + n) (take a xs ++ (ys ++ behind))) (sym size) ∙ take-append-add (take a xs) (ys ++ behind) n
    ∙ ap (λ zs. take a xs ++ zs) (take-append-le n ys behind few)

pub length_of_map : {A P : Type 0} (plain : A → P) (xs : List A) (ps : List P) → map plain xs ≡ ps → length xs ≡ length ps
length_of_map plain xs ps e = sym (length-map xs plain) ∙ ap length e

-- the pieces of a file, each with its semicolon
pub regroup : {B : Type 0} (a b c d e s t u v w : B) (la lb lc ld le r : List B) → (a ∷ (la ++ s ∷ []))
    ++ ((b ∷ (lb ++ t ∷ [])) ++ ((c ∷ (lc ++ u ∷ [])) ++ ((d ∷ (ld ++ v ∷ [])) ++ ((e ∷ (le ++ w ∷ [])) ++ r)))) ≡ a ∷
    (la ++ s ∷ b ∷ (lb ++ t ∷ c ∷ (lc ++ u ∷ d ∷ (ld ++ v ∷ e ∷ (le ++ w ∷ r)))))
regroup a b c d e s t u v w la lb lc ld le r = simp append_assoc

pub short_map : {A B : Type 0} (g : A → B) (xs : List A) (n : ℕ) → length xs ≤ n → length (map g xs) ≤ n
short_map g xs n h = omega (arith, length-map xs g)

pub unlike : (f : List ℕ → Bool) (x y : List ℕ) → x ≡ y → f x ≡ true → f y ≡ false → ⊥
unlike f x y e a b = let h : f x ≡ f y = ap f e in cc

-- where the first byte passes, the run begins by it
pub front_is : (p : ℕ → Bool) (x : ℕ) (xs : List ℕ) → p x ≡ true → take (prefix_len p (x ∷ xs)) (x ∷ xs) ≡ x ∷ take (prefix_len p xs) xs
front_is p x xs e = let s : 1 + prefix_len p xs ≡ suc (prefix_len p xs) = omega arith in rw (e, s) refl

pub letter_word : (b : ℕ) → IsTrue (is_letter b) → is_word b ≡ true
letter_word b h = grind (arith, nat_tests)

pub begins_word : (bytes : List ℕ) → BeginsByLetter bytes → BeginsByLetter (take (prefix_len is_word bytes) bytes)
begins_word [] h = h
begins_word (b ∷ bs) h = rw (front_is is_word b bs (letter_word b h)) h

-- the text, its lines and what comes behind it
pub whole_more : (text lines rest bytes : List ℕ) → text ≡ lines ++ rest → text ++ bytes ≡ lines ++ (rest ++ bytes)
whole_more text lines rest bytes e = ap (λ xs. xs ++ bytes) e ∙ append_assoc lines rest bytes

-- a line leaves less behind it
pub next_shorter : (rest front behind : List ℕ) → SplitAt 10 rest front behind → length behind < length rest
next_shorter rest front behind next = omega (arith, ap length next.split, length-append front (10 ∷ behind))

-- lists that differ at a place
pub differ : (k : ℕ) (xs ys : List ℕ) → eqb (get_or xs k 0) (get_or ys k 0) ≡ false → xs ≡ ys → ⊥
differ k xs ys apart e = let at = ap (λ zs. get_or zs k 0) e in let other = false-eqb (get_or xs k 0) (get_or ys k 0) (sym apart) in other at

-- nothing is left
pub append_nothing : (old left all : List ℕ) → left ≡ [] → old ++ left ≡ all → old ≡ all
append_nothing old left all none so_far = sym (append-nil old) ∙ ap (λ xs. old ++ xs) (sym none) ∙ so_far

-- the same, and something more
pub append_last : (text begun all rest last : List ℕ) → text ++ rest ≡ begun ++ all → rest ≡ [] → text ++ last ≡ begun ++ (all ++ last)
append_last text begun all rest last e none = ap (λ xs. xs ++ last) (append_nothing text rest (begun ++ all) none e) ∙ append_assoc begun all last

pub filter_true : (ok : ℕ → Bool) (k : ℕ) (xs : List ℕ) → ok k ≡ true → filter ok (k ∷ xs) ≡ k ∷ filter ok xs
filter_true ok k xs e = rw e refl

pub filter_false : (ok : ℕ → Bool) (k : ℕ) (xs : List ℕ) → ok k ≡ false → filter ok (k ∷ xs) ≡ filter ok xs
filter_false ok k xs e = rw e refl

pub left_place : (p s c : List ℕ) (i : ℕ) → i < length p → get_or ((p ++ s) ++ c) i 0 ≡ get_or p i 0
left_place p s c i h =
    let h' : i < length (p ++ s) = omega (arith, length-append p s) in
    get_or_append_left (p ++ s) c 0 i h' ∙ get_or_append_left p s 0 i h

pub middle_place : (p s c : List ℕ) (x : ℕ) → x < length s → get_or ((p ++ s) ++ c) (length p + x) 0 ≡ get_or s x 0
middle_place p s c x h =
    let h' : length p + x < length (p ++ s) = omega (arith, length-append p s) in
    get_or_append_left (p ++ s) c 0 (length p + x) h' ∙ get_or-append-add p s x 0

pub right_place : (p s c : List ℕ) (l : ℕ) → get_or ((p ++ s) ++ c) (length p + length s + l) 0 ≡ get_or c l 0
right_place p s c l = rw (← length-append p s) (get_or-append-add (p ++ s) c l 0)

-- a list without its last item
abbrev pub without_last : List ℕ → List ℕ
without_last [] = []
without_last (o ∷ []) = []
without_last (o ∷ q ∷ os) = o ∷ without_last (q ∷ os)

pub filter_all : (xs : List ℕ) → filter (λ r. true) xs ≡ xs
filter_all [] = refl
filter_all (x ∷ xs) = ap (λ ys. x ∷ ys) (filter_all xs)

pub no_sign : (b c : ℕ) → IsTrue (is_letter b) → is_letter c ≡ false → (c ∷ []) ≡ (b ∷ []) → ⊥
no_sign b c letter other e = let same : c ≡ b = cc in false≢true (sym other ∙ ap is_letter same ∙ letter)

-- two letters are distinct names
pub letters_apart : (b c : ℕ) → eqb b c ≡ false → (b ∷ []) ≡ (c ∷ []) → ⊥
letters_apart b c test e = let same : b ≡ c = cc in false≢true (sym test ∙ eq-eqb b c same)

pub slice_get_right : {X : Type 0} (xs ys : List X) (n i : ℕ) → n ≡ length xs + i → slice_get (xs ++ ys) n ≡ slice_get ys i
slice_get_right [] ys n i e = ap (slice_get ys) (let z : n ≡ i = omega arith in z)
slice_get_right (x ∷ xs) ys zero i e = absurd (omega arith)
slice_get_right (x ∷ xs) ys (suc n) i e = slice_get_right xs ys n i (omega arith)

pub slice_get_before : {X : Type 0} (xs ys : List X) (i : ℕ) → i < length xs → slice_get (xs ++ ys) i ≡ slice_get xs i
slice_get_before [] ys i h = absurd (omega arith)
slice_get_before (x ∷ xs) ys zero h = refl
slice_get_before (x ∷ xs) ys (suc i) h = slice_get_before xs ys i (omega arith)

pub get_end : {X : Type 0} (xs : List X) (y : X) (n : ℕ) → length xs ≡ n → slice_get (xs ++ y ∷ []) n ≡ Some y
get_end xs y n e = slice_get_right xs (y ∷ []) n 0 (omega arith)

pub longer_front : (front : List ℕ) (q : ℕ) (behind : List ℕ) → length behind < length (front ++ q ∷ behind)
longer_front front q behind = omega (arith, length-append front (q ∷ behind))

pub get_middle : (xs : List ℕ) (y : ℕ) (ys : List ℕ) → slice_get (xs ++ y ∷ ys) (length xs) ≡ Some y
get_middle xs y ys = slice_get_right xs (y ∷ ys) (length xs) 0 (omega arith)

pub one_step : (count : ℕ → ℤ) (n : ℕ) (b : Bool) (z : ℤ) → z ≡ count n → map {B = ℕ × ℤ} (λ r. (r, count r)) (cond b (n ∷ []) []) ≡ cond b ((n, z) ∷ []) []
one_step count n true z e = ap (λ (y : ℤ). (n, y) ∷ []) (sym e)
one_step count n false z e = refl

-- the pieces of one more element
pub last_item : {X : Type 0} (x y : X) (k : ℕ) → slice_get (x ∷ []) k ≡ Some y → (k ≡ 0) × (x ≡ y)
last_item x y zero e = (refl, (let q : x ≡ y = cc in q))
last_item x y (suc k) e = absurd (cc)

-- an item of a list behind another is in one of the two
pub get_parts : {X : Type 0} (xs ys : List X) (j : ℕ) (c : X) → slice_get (xs ++ ys) j ≡ Some c → (slice_get xs j ≡ Some c)
    ⊎ ((k : ℕ) × (j ≡ length xs + k) × (slice_get ys k ≡ Some c))
get_parts [] ys j c e = inr (j, omega arith, e)
get_parts (x ∷ xs) ys zero c e = inl e
get_parts (x ∷ xs) ys (suc j) c e = elim (get_parts xs ys j c e) [ inl h ↦ inl h | inr w ↦ inr (w.0, (let q = w.1 in omega arith), w.2) ]

-- an item of a list that has one item more at its end
pub push_cases : {X : Type 0} (xs : List X) (y : X) (k : ℕ) (x : X) → slice_get (xs ++ y ∷ []) k ≡ Some x → ((k < length xs) × (slice_get xs k ≡ Some x))
    ⊎ ((k ≡ length xs) × (y ≡ x))
push_cases xs y k x e = elim (get_parts xs (y ∷ []) k x e) [
  | inl w ↦ inl (slice_get_within xs k x w, w)
  | inr w ↦ (let last = last_item y x w.0 w.2 in inr ((let at = w.1 in let none = last.0 in omega arith), last.1))
]

-- names in order, cut into their kinds
pub cut_in_three : (ps ss ls : List (List ℕ)) (p s : ℕ) → length ps ≡ p → length ss ≡ s → (take p (ps ++ ss ++ ls) ≡ ps)
    × (take s (drop p (ps ++ ss ++ ls)) ≡ ss) × (drop (p + s) (ps ++ ss ++ ls) ≡ ls)
cut_in_three ps ss ls p s e f =
    let group : ps ++ ss ++ ls ≡ ps ++ (ss ++ ls) = append_assoc ps ss ls in (
      ap (take p) group ∙ take_at ps (ss ++ ls) p e,
      ap (λ z. take s (drop p z)) group ∙ ap (take s) (drop_at ps (ss ++ ls) p e) ∙ take_at ss ls s f,
      drop_at (ps ++ ss) ls (p + s) (length-append ps ss ∙ ap (λ n. n + length ss) e ∙ ap (λ n. p + n) f),
    )

pub number_gives : (test : ℤ → Bool) (zs : List ℤ) → list_any test zs ≡ true → (i : ℕ) × (i < length zs) × (test (get_or zs i (pos 0)) ≡ true)
number_gives test [] h = absurd (false≢true h)
number_gives test (z ∷ zs) h = elim (or_cases (test z) (list_any test zs) h) [
  | inl e ↦ (0, omega arith, e)
  | inr e ↦ (let w = number_gives test zs e in (suc w.0, (let b = w.1 in omega arith), w.2))
]

-- ---- numbers made one by one
pub at_map : (op : ℤ → ℤ) → op (pos 0) ≡ pos 0 → (f : List ℕ → ℤ) (names : List (List ℕ)) (i : ℕ)
    → get_or (map (λ x. op (f x)) names) i (pos 0) ≡ op (get_or (map f names) i (pos 0))
at_map op none f [] i = sym none
at_map op none f (n ∷ names) zero = refl
at_map op none f (n ∷ names) (suc i) = at_map op none f names i

pub at_map_both : (op : ℤ → ℤ → ℤ) → op (pos 0) (pos 0) ≡ pos 0 → (f g : List ℕ → ℤ) (names : List (List ℕ)) (i : ℕ)
    → get_or (map (λ x. op (f x) (g x)) names) i (pos 0) ≡ op (get_or (map f names) i (pos 0)) (get_or (map g names) i (pos 0))
at_map_both op none f g [] i = sym none
at_map_both op none f g (n ∷ names) zero = refl
at_map_both op none f g (n ∷ names) (suc i) = at_map_both op none f g names i

pub at_map_none : (names : List (List ℕ)) (i : ℕ) → get_or (map (λ x. pos 0) names) i (pos 0) ≡ pos 0
at_map_none names i = get_or-map_of_ListN (λ x. pos 0) names i []

-- ---- what stands at a place

-- what is left of a list begins with the item that a loop reads
pub next_item : {X : Type 0} (xs : List X) (i : ℕ) (x : X) → i < length xs → x ≡ get_or xs i x → drop i xs ≡ x ∷ drop (i + 1) xs
next_item xs i x within is = drop_more xs i x within ∙ ap (λ y. y ∷ drop (i + 1) xs) (sym is)

pub slice_get-drop : {X : Type 0} (xs : List X) (n i : ℕ) → slice_get (drop n xs) i ≡ slice_get xs (n + i)
slice_get-drop xs zero i = let e : i ≡ zero + i = omega arith in ap (λ (k : ℕ). slice_get xs k) e
slice_get-drop [] (suc n) i = refl
slice_get-drop (x ∷ xs) (suc n) i = let e : suc (n + i) ≡ suc n + i = omega arith in slice_get-drop xs n i ∙ ap (λ (k : ℕ). slice_get (x ∷ xs) k) e

pub slice_get-take : {X : Type 0} (xs : List X) (n i : ℕ) → i < n → slice_get (take n xs) i ≡ slice_get xs i
slice_get-take xs zero i h = absurd (omega arith)
slice_get-take [] (suc n) i h = refl
slice_get-take (x ∷ xs) (suc n) zero h = refl
slice_get-take (x ∷ xs) (suc n) (suc i) h = slice_get-take xs n i (omega arith)

pub slice_get-take_within : {X : Type 0} (xs : List X) (n i : ℕ) (x : X) → slice_get (take n xs) i ≡ Some x → i < n
slice_get-take_within xs zero i x e = cc
slice_get-take_within [] (suc n) i x e = cc
slice_get-take_within (y ∷ xs) (suc n) zero x e = omega arith
slice_get-take_within (y ∷ xs) (suc n) (suc i) x e = let h = slice_get-take_within xs n i x e in omega arith

-- an item of a part of a list stands in the list
pub get_of_drop : {X : Type 0} (k : ℕ) (xs : List X) (i : ℕ) (x : X) → slice_get (drop k xs) i ≡ Some x → slice_get xs (k + i) ≡ Some x
get_of_drop k xs i x e = sym (slice_get-drop xs k i) ∙ e

-- an item of a front is the list's
pub get_front : {X : Type 0} (xs : List X) (i j : ℕ) (x : X) → slice_get (take i xs) j ≡ Some x → (j < i) × (slice_get xs j ≡ Some x)
get_front xs i j x at = let b = slice_get-take_within xs i j x at in (b, sym (slice_get-take xs i j b) ∙ at)

-- an item of a list with one more is the last or was there before
pub get_push : {X : Type 0} (xs : List X) (y : X) (i : ℕ) (x : X) → slice_get (xs ++ y ∷ []) i ≡ Some x → (slice_get xs i ≡ Some x)
    ⊎ ((i ≡ length xs) × (x ≡ y))
get_push xs y i x e = elim (push_cases xs y i x e) [ inl w ↦ inl w.1 | inr w ↦ inr (w.0, sym w.1) ]

pub get_map : {X Y : Type 0} (f : X → Y) (xs : List X) (i : ℕ) (x : X) → slice_get xs i ≡ Some x → slice_get (map f xs) i ≡ Some (f x)
get_map f [] i x e = absurd (cc)
get_map f (y ∷ ys) zero x e = ap (λ z. Some (f z)) (same_Some y x e)
get_map f (y ∷ ys) (suc i) x e = get_map f ys i x e

-- ---- a name at a place i of distinct names, among those from a place on and below another
pub within_part : (names : List (List ℕ)) (n : List ℕ) (from to i : ℕ) → slice_get names i ≡ Some n → from ≤ i → i < to
    → slice_get (take (to - from) (drop from names)) (i - from) ≡ Some n
within_part names n from to i e low high =
    let same : from + (i - from) ≡ i = omega arith in
    slice_get-take (drop from names) (to - from) (i - from) (omega arith)
    ∙ slice_get-drop names from (i - from)
    ∙ ap (λ (k : ℕ). slice_get names k) same
    ∙ e

pub place-along : (a b : List (List ℕ)) (m n : List ℕ) (i : ℕ) → a ≡ b → m ≡ n → slice_get a i ≡ Some m → slice_get b i ≡ Some n
place-along a b m n i e g h = subst (λ (x : List (List ℕ)). slice_get x i ≡ Some n) e (subst (λ (y : List ℕ). slice_get a i ≡ Some y) g h)

pub same_cons : (s t : ℕ × ℤ) (a b : List (ℕ × ℤ)) → s.0 ≡ t.0 → s.1 ≡ t.1 → a ≡ b → s ∷ a ≡ t ∷ b
same_cons (x, c) (y, d) a b p q r = cc

pub heads : {P : Type 0} (p q : P) (ps qs : List P) → p ∷ ps ≡ q ∷ qs → p ≡ q
heads p q ps qs e = cc

pub tails : {P : Type 0} (p q : P) (ps qs : List P) → p ∷ ps ≡ q ∷ qs → ps ≡ qs
tails p q ps qs e = cc

pub empty-not : {P : Type 0} (p : P) (ps : List P) → [] ≡ p ∷ ps → ⊥
empty-not p ps e = cc

-- the same list with one item more of it behind
pub push-split : {X : Type 0} (all earlier rest : List X) (x : X) → all ≡ earlier ++ x ∷ rest → all ≡ (earlier ++ x ∷ []) ++ rest
push-split all earlier rest x e = e ∙ sym (append_assoc earlier (x ∷ []) rest)

pub zeros_past : (xs : List ℤ) (n i : ℕ) → length xs ≤ i → get_or (xs ++ replicate n (pos 0)) i (pos 0) ≡ pos 0
zeros_past xs n i b =
    get_or-append_right xs (replicate n (pos 0)) (length xs) i (pos 0) refl b
    ∙ elim (cases_lt (i - length xs) n) [
      | inl c ↦ get_or-replicate n (i - length xs) (pos 0) (pos 0) c
      | inr c ↦ get_or_past_of_List (replicate n (pos 0)) (i - length xs) (pos 0) (omega (arith, length-replicate n (pos 0)))
    ]

pub pieces : (p s : ℕ) (v : List ℤ) → take p v ++ take s (drop p v) ++ drop (p + s) v ≡ v
pieces p s v =
    rw (← drop-drop s p v)
    (append_assoc (take p v) (take s (drop p v)) (drop s (drop p v)) ∙ ap (λ r. take p v ++ r) (take-append-drop s (drop p v)) ∙ take-append-drop p v)

pub same_numbers : (xs ys : List ℕ) → length xs ≡ length ys → ((i : ℕ) → i < length xs → pos (get_or xs i 0) ≡ pos (get_or ys i 0)) → xs ≡ ys
same_numbers xs ys same h = ext_get_or 0 xs ys same (λ i b. pos_same (get_or xs i 0) (get_or ys i 0) (h i b))

-- an item that a loop reads is one of the list
pub read_within : {X : Type 0} (xs ys : List X) (i : ℕ) (x : X) → ys ≡ xs → i < length xs → x ≡ get_or ys i x → slice_get xs i ≡ Some x
read_within xs ys i x same within is = slice_get_read xs (length xs) i x refl within (is ∙ ap (λ zs. get_or zs i x) same)

pub read_same : {X : Type 0} (xs ys : List X) (i : ℕ) (x : X) → ys ≡ xs → i < length ys → x ≡ get_or ys i x → slice_get xs i ≡ Some x
read_same xs ys i x same below is = read_within xs ys i x same (omega (arith, ap length same)) is

-- what is read at a place has a fact that the value has
pub has_read : {X : Type 0} (xs : List X) (i : ℕ) (x : X) (fact : X → Type 0) → i < length xs → x ≡ get_or xs i x → fact x → IsSomeAnd (slice_get xs i) fact
has_read xs i x fact below is holds = subst (λ o. IsSomeAnd o fact) (sym (read_within xs xs i x refl below is)) holds

-- and the value has the fact of what is read
pub of_read : {X : Type 0} (xs : List X) (i : ℕ) (x : X) (fact : X → Type 0) → i < length xs → x ≡ get_or xs i x → IsSomeAnd (slice_get xs i) fact → fact x
of_read xs i x fact below is holds = subst (λ o. IsSomeAnd o fact) (read_within xs xs i x refl below is) holds

-- each item before one passes
abbrev pub PassedTo : {X : Type 0} → (ℕ → X → Type 0) → List X → ℕ → Type 0
PassedTo {X} Passes xs i = (j : ℕ) (x : X) → j < i → slice_get xs j ≡ Some x → Passes j x

pub none_passed : {X : Type 0} (Passes : ℕ → X → Type 0) (xs : List X) → PassedTo Passes xs 0
none_passed Passes xs j x b at = absurd (omega arith)

pub one_passed : {X : Type 0} (Passes : ℕ → X → Type 0) (xs : List X) (i : ℕ) (x : X) → slice_get xs i ≡ Some x → Passes i x → PassedTo Passes xs i
    → PassedTo Passes xs (i + 1)
one_passed {X} Passes xs i x at here before j y b there = elim (cases_lt j i) [
  | inl c ↦ before j y c there
  | inr c ↦ (
      let same : j ≡ i = omega arith in
      let item : x ≡ y = same_Some x y (sym at ∙ ap (slice_get xs) (sym same) ∙ there) in
      subst (λ n. Passes n y) (sym same) (subst (λ z. Passes i z) item here))
]

pub all_passed : {X : Type 0} (Passes : ℕ → X → Type 0) (xs : List X) (i : ℕ) → length xs ≤ i → PassedTo Passes xs i → (j : ℕ) (x : X) → slice_get xs j ≡ Some x
    → Passes j x
all_passed Passes xs i enough before j x at = before j x (omega (arith, slice_get_within xs j x at)) at

-- what a slice of the whole list leaves of it
pub front_back : (old new : List ℤ) → length new ≡ length old → take (length old) (new ++ drop (length new) old) ≡ new
front_back old new same = take_at new (drop (length new) old) (length old) same

pub twice_back : (old new newer rest : List ℤ) → length new ≡ length old → length newer ≡ length old
    → take (length (take (length old) (new ++ drop (length new) old))) (newer ++ rest) ≡ newer
twice_back old new newer rest same also =
    take_at newer rest (length (take (length old) (new ++ drop (length new) old)))
    (also ∙ sym same ∙ sym (ap (λ (xs : List ℤ). length xs) (front_back old new same)))

pub take_next_read : {X : Type 0} (k : ℕ) (xs : List X) (x : X) → k < length xs → x ≡ get_or xs k x → take (k + 1) xs ≡ take k xs ++ x ∷ []
take_next_read k xs x below is = take_more xs k x below ∙ ap (λ y. take k xs ++ y ∷ []) (sym is)

-- a list of two parts is empty where both are
pub empty_before : {X : Type 0} (xs ys : List X) → xs ≡ [] → xs ++ ys ≡ ys
empty_before xs ys e = ap (λ zs. zs ++ ys) e

pub empty_both : {X : Type 0} (xs ys : List X) → xs ≡ [] → ys ≡ [] → xs ++ ys ≡ []
empty_both xs ys e f = empty_before xs ys e ∙ f

pub empty_left : {X : Type 0} (xs ys : List X) → xs ++ ys ≡ [] → xs ≡ []
empty_left [] ys e = refl
empty_left (x ∷ xs) ys e = cc

pub empty_right : {X : Type 0} (xs ys : List X) → xs ++ ys ≡ [] → ys ≡ []
empty_right [] ys e = e
empty_right (x ∷ xs) ys e = cc

-- an empty list has no item, and no end
pub none_of_empty : {X : Type 0} (xs : List X) → xs ≡ [] → (i : ℕ) (x : X) → slice_get xs i ≡ Some x → ⊥
none_of_empty xs e i x at = none-some x (ap (λ ys. slice_get ys i) (sym e) ∙ at)

pub no_end : {X : Type 0} (xs : List X) (x : X) → [] ≡ xs ++ x ∷ [] → ⊥
no_end [] x e = absurd (cc)
no_end (y ∷ xs) x e = absurd (cc)

pub same_end : {X : Type 0} (xs ys : List X) (x y : X) → xs ++ x ∷ [] ≡ ys ++ y ∷ [] → x ≡ y
same_end [] [] x y e = cc
same_end [] (b ∷ ys) x y e = absurd (no_end ys y (cc))
same_end (a ∷ xs) [] x y e = absurd (no_end xs x (cc))
same_end (a ∷ xs) (b ∷ ys) x y e = same_end xs ys x y (cc)

pub filter_shorter : (test : ℕ → Bool) (xs : List ℕ) → length (filter test xs) ≤ length xs
filter_shorter test xs = omega (arith, length-filter test xs, count_by-le-length test xs)

-- the first elements of a word, the newest first
pub reverse_more : {X : Type 0} (xs : List X) (i : ℕ) (d : X) → i < length xs → reverse (take (i + 1) xs) ≡ get_or xs i d ∷ reverse (take i xs)
reverse_more xs i d b = ap reverse (take_more xs i d b) ∙ reverse-append (take i xs) (get_or xs i d ∷ [])

pub one_longer : {X : Type 0} (xs ys : List X) (x : X) → ys ≡ xs ++ x ∷ [] → length ys ≡ length xs + 1
one_longer xs ys x e = ap length e ∙ length-append xs (x ∷ [])

pub map_same : {X Y : Type 0} (f g : X → Y) (xs : List X) → ((x : X) → f x ≡ g x) → map f xs ≡ map g xs
map_same f g [] h = refl
map_same f g (x ∷ xs) h = ap (λ y. y ∷ map f xs) (h x) ∙ ap (λ ys. g x ∷ ys) (map_same f g xs h)

pub get_right : {X : Type 0} (xs ys : List X) (k : ℕ) (c : X) → slice_get ys k ≡ Some c → slice_get (xs ++ ys) (length xs + k) ≡ Some c
get_right xs ys k c e = slice_get_right xs ys (length xs + k) k refl ∙ e

item_more : {X : Type 0} (f : ℕ → X) (test : ℕ → Bool) (xs : List ℕ) (i d : ℕ) → i < length xs
    → map f (filter test (take (i + 1) xs)) ≡ map f (filter test (take i xs)) ++ map f (cond (test (get_or xs i d)) (get_or xs i d ∷ []) [])
item_more f test xs i d b = ap (λ ys. map f (filter test ys)) (take_more xs i d b) ∙ ap (map f) (filter-append test (take i xs) (get_or xs i d ∷ []))
    ∙ map-append f (filter test (take i xs)) (cond (test (get_or xs i d)) (get_or xs i d ∷ []) [])

pub item_one : {X : Type 0} (f : ℕ → X) (test : ℕ → Bool) (xs : List ℕ) (i d : ℕ) → i < length xs → test (get_or xs i d) ≡ true
    → map f (filter test (take i xs)) ++ f (get_or xs i d) ∷ [] ≡ map f (filter test (take (i + 1) xs))
item_one f test xs i d b t = sym (item_more f test xs i d b ∙ ap (λ c. map f (filter test (take i xs)) ++ map f (cond c (get_or xs i d ∷ []) [])) t)

pub items_one : (test : ℕ → Bool) (xs : List ℕ) (i d : ℕ) → i < length xs → test (get_or xs i d) ≡ true
    → length (filter test (take (i + 1) xs)) ≡ length (filter test (take i xs)) + 1
items_one test xs i d b t =
    let f : ℕ → ℕ = λ k. k in
    omega (
      arith,
      ap length (item_one f test xs i d b t),
      length-append (map f (filter test (take i xs))) (get_or xs i d ∷ []),
      length-map
          (filter test (take i xs)) f,
      length-map (filter test (take (i + 1) xs)) f,
    )

pub item_none : {X : Type 0} (f : ℕ → X) (test : ℕ → Bool) (xs : List ℕ) (i d : ℕ) → i < length xs → test (get_or xs i d) ≡ false
    → map f (filter test (take i xs)) ≡ map f (filter test (take (i + 1) xs))
item_none f test xs i d b t = sym
    (item_more f test xs i d b ∙ ap (λ c. map f (filter test (take i xs)) ++ map f (cond c (get_or xs i d ∷ []) [])) t
    ∙ append-nil (map f (filter test (take i xs))))

pub items_none : (test : ℕ → Bool) (xs : List ℕ) (i d : ℕ) → i < length xs → test (get_or xs i d) ≡ false
    → length (filter test (take (i + 1) xs)) ≡ length (filter test (take i xs))
items_none test xs i d b t =
    let f : ℕ → ℕ = λ k. k in
    omega (arith, ap length (item_none f test xs i d b t), length-map (filter test (take i xs)) f, length-map (filter test (take (i + 1) xs)) f)

pub map_constant : {X Y : Type 0} (z : ℤ) (xs : List X) (ys : List Y) → length xs ≡ length ys → map (λ x. z) xs ≡ map (λ y. z) ys
map_constant z [] [] e = refl
map_constant z (x ∷ xs) (y ∷ ys) e = ap (λ zs. z ∷ zs) (map_constant z xs ys (let q = e in omega arith))
map_constant z [] (y ∷ ys) e = absurd (let q = e in omega arith)
map_constant z (x ∷ xs) [] e = absurd (let q = e in omega arith)

pub only_item : (xs : List ℕ) → length xs ≡ 1 → (x : ℕ) × (xs ≡ x ∷ [])
only_item [] e = absurd (omega arith)
only_item (x ∷ []) e = (x, refl)
only_item (x ∷ y ∷ xs) e = absurd (omega arith)

pub get_of_map : {X Y : Type 0} (f : X → Y) (xs : List X) (j : ℕ) (y : Y) → slice_get (map f xs) j ≡ Some y → (x : X) × (slice_get xs j ≡ Some x) × (f x ≡ y)
get_of_map f [] j y e = absurd (cc)
get_of_map f (x ∷ xs) zero y e = (x, refl, (let q : f x ≡ y = cc in q))
get_of_map f (x ∷ xs) (suc j) y e = get_of_map f xs j y e

pub get_drop : {X : Type 0} (n : ℕ) (xs : List X) (j : ℕ) (x : X) → slice_get xs (n + j) ≡ Some x → slice_get (drop n xs) j ≡ Some x
get_drop n xs j x e = slice_get-drop xs n j ∙ e

pub get_past : {M : Type 0} (f : M → ℤ) (ms : List M) (n : ℕ) → length ms ≤ n → get_or (map f ms) n (pos 0) ≡ pos 0
get_past f ms n b = get_or_past_of_List (map f ms) n (pos 0) (omega (arith, length-map ms f))

pub maps_length : {X Y Z : Type 0} (f : X → Y) (g : X → Z) (xs : List X) → length (map f xs) ≡ length (map g xs)
maps_length f g xs = omega (arith, length-map xs f, length-map xs g)

pub some_at : {X : Type 0} (xs : List X) (i : ℕ) → i < length xs → (x : X) × (slice_get xs i ≡ Some x)
some_at [] i h = absurd (omega arith)
some_at (x ∷ xs) zero h = (x, refl)
some_at (x ∷ xs) (suc i) h = some_at xs i (omega arith)

pub at_most_first : (n f : ℕ) → get_or (n ∷ []) f 0 ≤ n
at_most_first n zero = omega arith
at_most_first n (suc f) = omega arith

pub next_dropped : {X : Type 0} (xs : List X) (k : ℕ) (x : X) → slice_get xs k ≡ Some x → drop k xs ≡ x ∷ drop (k + 1) xs
next_dropped xs k x e = next_item xs k x (slice_get_within xs k x e) (sym (get_or_from_slice_get xs k x x e))

pub none_dropped : {X : Type 0} (xs : List X) (k : ℕ) → slice_get xs k ≡ None → drop k xs ≡ []
none_dropped [] zero e = refl
none_dropped [] (suc k) e = refl
none_dropped (y ∷ ys) zero e = cc
none_dropped (y ∷ ys) (suc k) e = none_dropped ys k e

pub fewer_alike : {X : Type 0} (m n : ℕ) (xs ys : List X) → m ≤ n → take n xs ≡ take n ys → take m xs ≡ take m ys
fewer_alike m n xs ys le e = sym (take-take m n xs le) ∙ ap (take m) e ∙ take-take m n ys le

pub take_begins : {X : Type 0} (n : ℕ) (xs ys more : List X) → n ≡ length xs → ys ≡ xs ++ more → take n ys ≡ take n xs
take_begins n xs ys more e f = ap (take n) f ∙ take-append-le n xs more (omega arith)

pub all_taken : {X : Type 0} (n : ℕ) (xs : List X) → n ≡ length xs → take n xs ≡ xs
all_taken n xs e = ap (λ m. take m xs) e ∙ take-length xs

pub longer_by : {X : Type 0} (n : ℕ) (xs ys more : List X) → n ≡ length xs → ys ≡ xs ++ more → n ≤ length ys
longer_by n xs ys more e f = omega (arith, ap length f, length-append xs more)

pub get_set_added : (cells : List ℤ) (a x : ℕ) (z rest : ℤ) → a < length cells → get_or cells a (pos 0) ≡ pos 0
    → (get_or (set cells a z) x (pos 0) +ℤ rest) ≡ (get_or cells x (pos 0) +ℤ (cond (eqb a x) z (pos 0) +ℤ rest))
get_set_added cells a x z rest inside none =
    elim (cases_eq x a) [
      | inl same ↦
          let on : cond (eqb a x) z (pos 0) ≡ z = grind (arith, nat_tests) in
          let new : get_or (set cells a z) x (pos 0) ≡ z = rw same (get_or-set_same cells a z (pos 0) inside) in
          let old : get_or cells x (pos 0) ≡ pos 0 = rw same none in
          omega (arith, ints, on, new, old)
      | inr apart ↦
          let off : cond (eqb a x) z (pos 0) ≡ pos 0 = grind (arith, nat_tests) in
          omega (arith, ints, off, get_or-set_other cells a x z (pos 0) apart)
    ]

-- one more number is written
pub write_more : (numbers old : List ℤ) (j : ℕ) → j < length numbers → length numbers ≤ length old
    → set (take j numbers ++ drop j old) j (get_or numbers j (pos 0)) ≡ take (suc j) numbers ++ drop (suc j) old
write_more [] old j h k = absurd (omega arith)
write_more (n ∷ ns) [] j h k = absurd (omega arith)
write_more (n ∷ ns) (o ∷ old) zero h k = refl
write_more (n ∷ ns) (o ∷ old) (suc j) h k = ap (λ (xs : List ℤ). n ∷ xs) (write_more ns old j (omega arith) (omega arith))

-- one more place is as wanted
pub done_more : {A : Type 0} (f : ℕ → A) (d : A) (xs : List A) (j : ℕ) (x : A) → j < length xs → x ≡ f j →
    ((k : ℕ) → k < j → get_or xs k d ≡ f k) → (k : ℕ) → k < j + 1 → get_or (set xs j x) k d ≡ f k
done_more f d xs j x h e done k below = rw e (fill_by_more f xs j d h done k below)

-- the places after it are as they were
pub rest_more : {A : Type 0} (d : A) (old xs : List A) (j : ℕ) (x : A) → ((k : ℕ) → j ≤ k → get_or xs k d ≡ get_or old k d) →
    (k : ℕ) → j + 1 ≤ k → get_or (set xs j x) k d ≡ get_or old k d
rest_more d old xs j x rest k below =
    let apart : k ≢ j = omega arith in
    get_or-set_other xs j k x d apart ∙ rest k (omega arith)

pub get_or-neg : (cs : List ℤ) (column : ℕ) → get_or (map neg_ℤ cs) column (pos 0) ≡ neg_ℤ (get_or cs column (pos 0))
get_or-neg cs column = get_or-map_of_ListN neg_ℤ cs column (pos 0)

pub map-div-one : (cs : List ℤ) → map (λ z. int_div z (pos 1)) cs ≡ cs
map-div-one [] = refl
map-div-one (c ∷ cs) = rw (div-one c, map-div-one cs) refl

pub range_split : (a n e : ℕ) → range_with_len a (n + e) ≡ range_with_len a n ++ range_with_len (a + n) e
range_split a zero e = let h : zero + e ≡ e = omega arith in let k : a + zero ≡ a = omega arith in ap (range_with_len a) h
    ∙ ap (λ (x : ℕ). range_with_len x e) (sym k)
range_split a (suc n) e =
    let h : suc n + e ≡ suc (n + e) = omega arith in
    let k : (a + 1) + n ≡ a + suc n = omega arith in
    ap (range_with_len a) h ∙ ap (λ (xs : List ℕ). a ∷ xs) (range_split (a + 1) n e ∙ ap (λ (x : ℕ). range_with_len (a + 1) n ++ range_with_len x e) k)

pub range_more : (a n : ℕ) → range_with_len a (suc n) ≡ range_with_len a n ++ (a + n) ∷ []
range_more a n = ap (range_with_len a) (let more : suc n ≡ n + 1 = omega arith in more) ∙ range_split a n 1

pub get-set_same : {A : Type 0} (xs : List A) (i : ℕ) (x : A) → i < length xs → slice_get (set xs i x) i ≡ Some x
get-set_same [] i x h = absurd (omega arith)
get-set_same (y ∷ ys) zero x h = refl
get-set_same (y ∷ ys) (suc i) x h = get-set_same ys i x (omega arith)

pub get-set_other : {A : Type 0} (xs : List A) (i j : ℕ) (x : A) → j ≢ i → slice_get (set xs i x) j ≡ slice_get xs j
get-set_other [] i j x ne = refl
get-set_other (y ∷ ys) zero zero x ne = absurd (ne refl)
get-set_other (y ∷ ys) zero (suc j) x ne = refl
get-set_other (y ∷ ys) (suc i) zero x ne = refl
get-set_other (y ∷ ys) (suc i) (suc j) x ne = get-set_other ys i j x (λ e. ne (ap suc e))

pub some_within : {A : Type 0} (xs : List A) (k : ℕ) (P : A → Type 0) → IsSomeAnd (slice_get xs k) P → k < length xs
some_within [] k P h = absurd h
some_within (x ∷ xs) zero P h = omega arith
some_within (x ∷ xs) (suc k) P h = let below = some_within xs k P h in omega arith

pub reverse_onto : {X : Type 0} (x : X) (xs past : List X) → reverse (x ∷ xs) ++ past ≡ reverse xs ++ (x ∷ past)
reverse_onto x xs past = ap (λ ys. ys ++ past) (reverse-append (x ∷ []) xs) ∙ append_assoc (reverse xs) (x ∷ []) past

pub take_next : {X : Type 0} (xs : List X) (i : ℕ) (x : X) → slice_get xs i ≡ Some x → take (i + 1) xs ≡ take i xs ++ x ∷ []
take_next xs i x at = take_next_read i xs x (slice_get_within xs i x at) (sym (get_or_from_slice_get xs i x x at))

-- an item below the end of a front is the list's
pub front_get : {X : Type 0} (xs : List X) (i j : ℕ) (x : X) → j < i → slice_get xs j ≡ Some x → slice_get (take i xs) j ≡ Some x
front_get xs i j x b at = slice_get-take xs i j b ∙ at

-- an item of the first list, or of the second
pub slice_get_left : {X : Type 0} (xs ys : List X) (i : ℕ) (x : X) → slice_get xs i ≡ Some x → slice_get (xs ++ ys) i ≡ Some x
slice_get_left xs ys i x e = slice_get_before xs ys i (slice_get_within xs i x e) ∙ e

-- lists that are equal in two parts, the first of the same length
pub same_parts : {X : Type 0} (xs ys r s : List X) → length xs ≡ length ys → xs ++ r ≡ ys ++ s → (xs ≡ ys) × (r ≡ s)
same_parts [] [] r s n e = (refl, e)
same_parts [] (y ∷ ys) r s n e = absurd (omega arith)
same_parts (x ∷ xs) [] r s n e = absurd (omega arith)
same_parts (x ∷ xs) (y ∷ ys) r s n e =
    let tail : xs ++ r ≡ ys ++ s = cc in
    let more = same_parts xs ys r s (omega arith) tail in
    let same = more.0 in
    (cc, more.1)

-- natural numbers as whole ones
pub get_or-pos : (xs : List ℕ) (i : ℕ) → get_or (map pos xs) i (pos 0) ≡ pos (get_or xs i 0)
get_or-pos xs i = get_or-map_of_ListN pos xs i 0

-- a list with an item has a front, the item, and what is behind it
pub cut_at : {X : Type 0} (xs : List X) (i : ℕ) (x : X) → slice_get xs i ≡ Some x → xs ≡ take i xs ++ x ∷ drop (suc i) xs
cut_at xs i x at = split_at xs i x (slice_get_within xs i x at) ∙ ap (λ y. take i xs ++ y ∷ drop (suc i) xs) (get_or_from_slice_get xs i x x at)

pub replicate_cut : (k t r : ℕ) → t < k → replicate k r ≡ replicate t r ++ r ∷ replicate (k - suc t) r
replicate_cut zero t r b = absurd (omega arith)
replicate_cut (suc k) zero r b = let e : k ≡ suc k - suc 0 = omega arith in ap (λ n. r ∷ replicate n r) e
replicate_cut (suc k) (suc t) r b =
    let e : k - suc t ≡ suc k - suc (suc t) = omega arith in
    ap (λ (xs : List ℕ). r ∷ xs) (replicate_cut k t r (omega arith) ∙ ap (λ n. replicate t r ++ r ∷ replicate n r) e)

-- where an item stands in a list with one more item
pub split_last : (xs : List ℕ) (x : ℕ) (front : List ℕ) (r : ℕ) (behind : List ℕ) → xs ++ x ∷ [] ≡ front ++ r ∷ behind → (front ≡ xs)
    ⊎ ((rest : List ℕ) × (xs ≡ front ++ r ∷ rest))
split_last [] x [] r behind e = inl refl
split_last [] x (f ∷ []) r behind e = absurd (cc)
split_last [] x (f ∷ g ∷ fs) r behind e = absurd (cc)
split_last (y ∷ ys) x [] r behind e = inr (ys, let same : y ≡ r = cc in ap (λ z. z ∷ ys) same)
split_last (y ∷ ys) x (f ∷ fs) r behind e =
    let same : y ≡ f = cc in
    let tail : ys ++ x ∷ [] ≡ fs ++ r ∷ behind = cc in
    elim (split_last ys x fs r behind tail) [
      | inl whole ↦ inl (ap (λ (zs : List ℕ). f ∷ zs) whole ∙ ap (λ z. z ∷ ys) (sym same))
      | inr w ↦ inr (w.0, ap (λ z. z ∷ ys) same ∙ ap (λ (zs : List ℕ). f ∷ zs) w.1)
    ]

pub naturals_back : (xs : List ℕ) → map unsigned_abs (map pos xs) ≡ xs
naturals_back [] = refl
naturals_back (x ∷ xs) = ap (λ (ys : List ℕ). x ∷ ys) (naturals_back xs)

pub natural_at : (f : ℕ → ℤ) (xs : List ℕ) (j l n : ℕ) → slice_get xs j ≡ Some l → f l ≡ pos n → slice_index (map unsigned_abs (map f xs)) j ≡ n
natural_at f [] j l n at e = absurd (cc)
natural_at f (x ∷ xs) zero l n at e = let same : x ≡ l = cc in ap unsigned_abs (ap f same ∙ e)
natural_at f (x ∷ xs) (suc j) l n at e = natural_at f xs j l n at e

pub not_empty : (xs ys : List ℕ) → xs ++ (10 ∷ ys) ≡ [] → ⊥
not_empty [] ys e = cc
not_empty (x ∷ xs) ys e = cc

-- a piece more is written of what is left
pub piece_written : (old new bytes left rest all : List ℕ) → new ≡ old ++ bytes → left ≡ bytes ++ rest → old ++ left ≡ all → new ++ rest ≡ all
piece_written old new bytes left rest all written next so_far =
    ap (λ xs. xs ++ rest) written ∙ append_assoc old bytes rest ∙ ap (λ xs. old ++ xs) (sym next) ∙ so_far

-- texts that begin otherwise differ
pub heads_apart : {X : Type 0} (x y : ℕ) (xs ys : List ℕ) → x < y ⊎ y < x → x ∷ xs ≡ y ∷ ys → X
heads_apart x y xs ys (inl less) e = let same : x ≡ y = cc in absurd (omega arith)
heads_apart x y xs ys (inr less) e = let same : x ≡ y = cc in absurd (omega arith)

-- texts that begin otherwise behind two bytes differ
pub apart_third : {X : Type 0} (a b x y : ℕ) (xs ys : List ℕ) → x < y ⊎ y < x → a ∷ b ∷ x ∷ xs ≡ a ∷ b ∷ y ∷ ys → X
apart_third a b x y xs ys other e = let tails : x ∷ xs ≡ y ∷ ys = cc in heads_apart x y xs ys other tails

-- lines, cut at their line feeds: behind the last one nothing stands
pub split_line : (line rest : List ℕ) → Avoids 10 line → slice_split (λ b. b == 10) (line ++ (10 ∷ rest)) ≡ line ∷ slice_split (λ b. b == 10) rest
split_line [] rest free = slice_split-cons_yes (λ b. b == 10) 10 rest refl
split_line (x ∷ xs) rest free =
    let other : (x == 10) ≡ false = elim (eqb_tells x 10) [ inl e ↦ absurd (free.0 e.1) | inr ne ↦ ne.0 ] in
    slice_split-cons_no (λ b. b == 10) x (xs ++ (10 ∷ rest)) other ∙ ap (λ parts. onto_first x parts) (split_line xs rest free.1)

-- a line feed behind which something stands is that of the first line, or stands behind that one
pub behind_line : (xs rest before tail : List ℕ) → Avoids 10 xs → xs ++ (10 ∷ rest) ≡ before ++ (10 ∷ tail) → (rest ≡ tail)
    ⊎ ((more : List ℕ) × (rest ≡ more ++ (10 ∷ tail)))
behind_line [] rest [] tail free e = let same : rest ≡ tail = cc in inl same
behind_line [] rest (y ∷ ys) tail free e = let same : rest ≡ ys ++ (10 ∷ tail) = cc in inr (ys, same)
behind_line (x ∷ xs) rest [] tail free e = let head : x ≡ 10 = cc in absurd (free.0 head)
behind_line (x ∷ xs) rest (y ∷ ys) tail free e = let same : xs ++ (10 ∷ rest) ≡ ys ++ (10 ∷ tail) = cc in behind_line xs rest ys tail free.1 same

pub either_clear : (b : Bool) (xs ys : List ℕ) → Avoids 10 xs → Avoids 10 ys → Avoids 10 (if b then xs else ys)
either_clear true xs ys first second = first
either_clear false xs ys first second = second

-- three parts behind a text
pub three_behind : (old a b c : List ℕ) → ((old ++ a) ++ b) ++ c ≡ old ++ (a ++ (b ++ c))
three_behind old a b c = append_assoc (old ++ a) b c ∙ append_assoc old a (b ++ c)

-- the same behind a name with words around it
pub named_ended : {E : Type 0} (r : Result (Unit {0}) E) (old new w a name b words c : List ℕ) → w ≡ (old ++ (a ++ (name ++ b))) ++ words
    → new ≡ (if is_ok r then w ++ c else w) → OnOk r (new ≡ old ++ (a ++ (name ++ (b ++ (words ++ c)))))
named_ended (Ok x) old new w a name b words c first last =
    last ∙ ap (λ (text : List ℕ). text ++ c) first ∙ three_behind old (a ++ (name ++ b)) words c
    ∙ ap (λ (text : List ℕ). old ++ text) (append_assoc a (name ++ b) (words ++ c) ∙ ap (λ (text : List ℕ). a ++ text) (append_assoc name b (words ++ c)))
named_ended (Err e) old new w a name b words c first last = tt

pub none_not_some : (file : Option (List ℕ)) (content : List ℕ) → file ≡ None → file ≡ Some content → ⊥
none_not_some file content none some = let e : Some content ≡ None = sym some ∙ none in cc

pub one_content : (file : Option (List ℕ)) (content other : List ℕ) → file ≡ Some content → file ≡ Some other → content ≡ other
one_content file content other is are = let e : Some content ≡ Some other = sym is ∙ are in cc

-- how long a text is with a piece behind it
pub piece_size : (text piece : List ℕ) (at : ℕ) → at ≡ length text → at + length piece ≡ length (text ++ piece)
piece_size text piece at place = omega (arith, place, length-append text piece)

pub cond_append : (pair other : ℕ × ℕ) (others rest ys : List (ℕ × ℕ)) (b : Bool)
    → cond b (pair ∷ other ∷ (others ++ ys)) (other ∷ (rest ++ ys)) ≡ cond b (pair ∷ other ∷ others) (other ∷ rest) ++ ys
cond_append pair other others rest ys true = refl
cond_append pair other others rest ys false = refl

-- numbers, each with its count, are those numbers
pub firsts : (count : ℕ → ℤ) (ns : List ℕ) → map (λ (pair : ℕ × ℤ). pair.0) (map {B = ℕ × ℤ} (λ n. (n, count n)) ns) ≡ ns
firsts count [] = refl
firsts count (n ∷ ns) = ap (λ (ms : List ℕ). n ∷ ms) (firsts count ns)

-- nothing is repeated in an empty list
pub none_repeated : {X : Type 0} (n : ℕ) (x : X) (xs : List X) → replicate n x ++ xs ≡ [] → n ≡ 0
none_repeated n x xs e = omega (arith, ap length e, length-append (replicate n x) xs, length-replicate n x)

pub map-replicate : {X Y : Type 0} (f : X → Y) (n : ℕ) (x : X) → map f (replicate n x) ≡ replicate n (f x)
map-replicate f zero x = refl
map-replicate f (suc n) x = ap (λ ys. f x ∷ ys) (map-replicate f n x)

-- copies behind a list that is filled up with them
pub filled_up_more : {X : Type 0} (xs front : List X) (n k : ℕ) (x : X) → length front ≤ n → xs ≡ front ++ replicate (n - length front) x → xs
    ++ replicate k x ≡ front ++ replicate ((n + k) - length front) x
filled_up_more xs front n k x within is =
    let sum : (n - length front) + k ≡ (n + k) - length front = omega arith in
    ap (λ ys. ys ++ replicate k x) is ∙ append_assoc front (replicate (n - length front) x) (replicate k x)
    ∙ ap (λ ys. front ++ ys) (replicate-append-replicate (n - length front) k x ∙ ap (λ (i : ℕ). replicate i x) sum)

-- what is cut from a list gives it again
pub put_together : {X : Type 0} (xs front behind : List X) (n : ℕ) → front ≡ take n xs → behind ≡ drop n xs → xs ≡ front ++ behind
put_together xs front behind n first rest = sym (ap (λ ys. ys ++ behind) first ∙ ap (λ ys. take n xs ++ ys) rest ∙ take-append-drop n xs)

-- the last part, if it was written
pub ended : {E : Type 0} (r : Result (Unit {0}) E) (old new w a b c : List ℕ) → w ≡ (old ++ a) ++ b → new ≡ (if is_ok r then w ++ c else w)
    → OnOk r (new ≡ old ++ (a ++ (b ++ c)))
ended (Ok x) old new w a b c first last = last ∙ ap (λ (text : List ℕ). text ++ c) first ∙ three_behind old a b c
ended (Err e) old new w a b c first last = tt

-- what is listed from a number on, up to the end
pub slice_range-end : {X : Type 0} (xs : List X) (from n : ℕ) → n ≡ length xs → slice_range xs from n ≡ drop from xs
slice_range-end xs from n e = ap (λ k. take (k - from) (drop from xs)) e ∙ take_rest xs from

-- a list whose first item was taken out
pub first_removed : {X : Type 0} (xs ys : List X) (x : X) → x ≡ get_or xs 0 x → ys ≡ take 0 xs ++ drop 1 xs → 0 < length xs → xs ≡ x ∷ ys
first_removed [] ys x first others some = absurd (omega arith)
first_removed (z ∷ zs) ys x first others some = ap (λ y. y ∷ zs) (sym first) ∙ ap (λ ws. x ∷ ws) (sym others)

-- a list in the reverse order, cut
pub reversed_parts : {X : Type 0} (k : ℕ) (xs : List X) → reverse xs ≡ reverse (drop k xs) ++ reverse (take k xs)
reversed_parts k xs = ap reverse (sym (take-append-drop k xs)) ∙ reverse-append (take k xs) (drop k xs)

pub reversed_at : {X : Type 0} (k : ℕ) (xs : List X) (x : X) → slice_get xs k ≡ Some x → reverse xs ≡ reverse (drop (k + 1) xs) ++ x ∷ reverse (take k xs)
reversed_at k xs x at =
    reversed_parts k xs
    ∙ ap (λ ys. reverse ys ++ reverse (take k xs)) (next_dropped xs k x at)
    ∙ ap (λ ys. ys ++ reverse (take k xs)) (reverse-append (x ∷ []) (drop (k + 1) xs))
    ∙ append_assoc (reverse (drop (k + 1) xs)) (x ∷ []) (reverse (take k xs))

pub reversed_same : {X : Type 0} (xs ys zs : List X) → reverse xs ≡ zs → reverse ys ≡ zs → xs ≡ ys
reversed_same xs ys zs is are = sym (reverse-reverse xs) ∙ ap reverse (is ∙ sym are) ∙ reverse-reverse ys

-- lists in parts
pub joined : {X : Type 0} (all xs middle ys rest : List X) → all ≡ xs ++ middle → middle ≡ ys ++ rest → all ≡ (xs ++ ys) ++ rest
joined all xs middle ys rest e f = e ∙ ap (λ zs. xs ++ zs) f ∙ sym (append_assoc xs ys rest)

pub regrouped : {X : Type 0} (xs ys rest xs' ys' rest' : List X) → (xs ++ ys) ++ rest ≡ (xs' ++ ys') ++ rest' → xs ++ (ys ++ rest) ≡ xs' ++ (ys' ++ rest')
regrouped xs ys rest xs' ys' rest' e = sym (append_assoc xs ys rest) ∙ e ∙ append_assoc xs' ys' rest'

pub five_parts : {X : Type 0} (a b c d e rest : List X) → a ++ (b ++ (c ++ (d ++ (e ++ rest)))) ≡ (a ++ (b ++ (c ++ (d ++ e)))) ++ rest
five_parts a b c d e rest = simp append_assoc

-- a piece and what follows it
pub piece : {X : Type 0} (all a b x c : List X) → all ≡ a ++ b → a ≡ x → b ≡ c → all ≡ x ++ c
piece all a b x c e f g = e ∙ ap (λ z. z ++ b) f ∙ ap (λ z. x ++ z) g

-- lists that are no longer than another, by a test or by what was taken
pub unless_most : {X : Type 0} (b : Bool) (xs : List X) (n : ℕ) → length xs ≤ n → length (cond b [] xs) ≤ n
unless_most true xs n h = omega arith
unless_most false xs n h = h

pub taken_long : {X : Type 0} (last : ℕ) (xs ys : List X) → ys ≡ take last xs → length xs ≡ last + 1 → length ys ≡ last
taken_long last xs ys e long = omega (arith, ap length e, length-take-le last xs (omega arith))

-- lists with the same items are the same
pub same_items : {X : Type 0} (xs ys : List X) → length xs ≡ length ys → ((i : ℕ) → i < length xs → slice_get xs i ≡ slice_get ys i) → xs ≡ ys
same_items [] [] e same = refl
same_items [] (y ∷ ys) e same = absurd (omega arith)
same_items (x ∷ xs) [] e same = absurd (omega arith)
same_items (x ∷ xs) (y ∷ ys) e same =
    let first = same 0 (omega arith) in
    let rest = same_items xs ys (omega arith) (λ i h. same (suc i) (omega arith)) in
    cc

-- a place counted from nothing
pub get_from_none : {X : Type 0} (xs : List X) (k : ℕ) (x : X) → slice_get xs k ≡ Some x → slice_get xs (0 + k) ≡ Some x
get_from_none xs k x at = let here : k ≡ 0 + k = omega arith in ap (slice_get xs) (sym here) ∙ at

-- the images of images
pub map-map : {X Y Z : Type 0} (f : Y → Z) (g : X → Y) (xs : List X) → map (λ x. f (g x)) xs ≡ map f (map g xs)
map-map f g [] = refl
map-map f g (x ∷ xs) = ap (λ ys. f (g x) ∷ ys) (map-map f g xs)

-- behind three parts that are the same
pub behind_three : {X : Type 0} (a b c x y m n t u : List X) → (a ++ (b ++ (c ++ (x ++ m)))) ++ t ≡ (a ++ (b ++ (c ++ (y ++ n)))) ++ u → x ++ (m ++ t) ≡ y
    ++ (n ++ u)
behind_three a b c x y m n t u e = append_cancel_left c _ _
    (append_cancel_left b _ _ (append_cancel_left a _ _ (five_parts a b c x m t ∙ e ∙ sym (five_parts a b c y n u))))

-- of two texts the first was chosen
pub first_chosen : {X : Type 0} (b : Bool) (x y rest behind : List X) → (if b then x else y) ++ rest ≡ x ++ behind → (y ++ rest ≡ x ++ behind → ⊥) → b ≡ true
first_chosen true x y rest behind e other = refl
first_chosen false x y rest behind e other = absurd (other e)

pub map_three : {X Y : Type 0} (f : X → Y) (a b c : List X) → map f a ++ map f b ++ map f c ≡ map f (a ++ b ++ c)
map_three f a b c = ap (λ r. r ++ map f c) (sym (map-append f a b)) ∙ sym (map-append f (a ++ b) c)

-- ---- lists one behind the other
pub concat_more : (ts : List (List ℕ)) (t : List ℕ) → concat (ts ++ t ∷ []) ≡ concat ts ++ t
concat_more ts t = concat-append ts (t ∷ []) ∙ ap (λ xs. concat ts ++ xs) (append-nil t)

pub concat_next : (ts : List (List ℕ)) (k : ℕ) (t : List ℕ) → k < length ts → get_or ts k t ≡ t → concat (take (k + 1) ts) ≡ concat (take k ts) ++ t
concat_next ts k t below is = ap concat (take_next_read k ts t below (sym is)) ∙ concat_more (take k ts) t

pub concat_length : (ts : List (List ℕ)) (k : ℕ) (t : List ℕ) → k < length ts → get_or ts k t ≡ t
    → length (concat (take (k + 1) ts)) ≡ length (concat (take k ts)) + length t
concat_length ts k t below is = ap length (concat_next ts k t below is) ∙ length-append (concat (take k ts)) t

-- the first are no longer than all
pub concat_within : (ts : List (List ℕ)) (k : ℕ) → length (concat (take k ts)) ≤ length (concat ts)
concat_within ts k = omega (
  arith,
  ap length (ap concat (sym (take-append-drop k ts)) ∙ concat-append (take k ts) (drop k ts)),
  length-append
      (concat (take k ts)) (concat (drop k ts)),
)

-- an open piece behind whole ones was ended, or is empty, or others came between
pub concat_ended : (whole new : List (List ℕ)) (last : List ℕ) → new ≡ whole ++ last ∷ [] → concat new ≡ concat whole ++ last
concat_ended whole new last e = ap concat e ∙ concat_more whole last

pub concat_begun : (whole : List (List ℕ)) (text last : List ℕ) → concat whole ≡ text → last ≡ [] → concat whole ++ last ≡ text
concat_begun whole text last e none = ap (λ xs. concat whole ++ xs) none ∙ append-nil (concat whole) ∙ e

pub concat_added : (whole new more : List (List ℕ)) (text last : List ℕ) → concat whole ≡ text → new ≡ whole ++ more → concat new ++ last ≡ text
    ++ (concat more ++ last)
concat_added whole new more text last e added =
    ap (λ ts. concat ts ++ last) added
    ∙ ap (λ xs. xs ++ last) (concat-append whole more)
    ∙ append_assoc (concat whole) (concat more) last
    ∙ ap (λ xs. xs ++ (concat more ++ last)) e
