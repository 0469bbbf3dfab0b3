-- one more pair at its place in a list
use Rattle.ta_implied.proofs.Common.{◌≡◌, inl, inr, ℕ, zero, suc, ◌+◌, ◌<◌, ◌≤◌, List, [], ◌∷◌, ◌++◌, map, length, set, get_or, eqb, cond, Bool, true, false}
use Rattle.ta_implied.proofs.Common.{◌&&◌, ◌||◌, arith, sym, ap, ◌∙◌, refl, subst, filter, nat_lt, lt-ltb, nat_tests, cases_Bool, eqb_tells, has_bit}
use Rattle.ta_implied.proofs.Common.{range_with_len, In, cond_append, back, either, in_append, in_filter, in_map, in_numbers, pairs_at, pairs_from, is_earlier}
use Rattle.ta_implied.proofs.Common.{with_pair, cond-false, cond-true}
use Rattle.ta_base.proofs.Bits.{IsWith, other_bit, own_bit}
use Rattle.ta_base.proofs.Lists.{filter_false, filter_true}

pub in_placed : (pair : ℕ × ℕ) (pairs : List (ℕ × ℕ)) (q : ℕ × ℕ) → In q (with_pair pair pairs) → In q (pair ∷ pairs)
in_placed pair [] q h = h
in_placed pair (other ∷ others) q h = either pair other others (with_pair pair others) (is_earlier pair other) q (in_placed pair others q) h

pub placed_in : (pair : ℕ × ℕ) (pairs : List (ℕ × ℕ)) (q : ℕ × ℕ) → In q (pair ∷ pairs) → In q (with_pair pair pairs)
placed_in pair [] q h = h
placed_in pair (other ∷ others) q h = back pair other others (with_pair pair others) (is_earlier pair other) q (placed_in pair others q) h

-- the places of two pairs
earlier_guard : (pair other : ℕ × ℕ) → pair.1 < other.1 → is_earlier pair other ≡ true
earlier_guard pair other h = ap (λ b. b || (eqb pair.1 other.1 && nat_lt pair.0 other.0)) (lt-ltb pair.1 other.1 h)

later_guard : (pair other : ℕ × ℕ) → other.1 < pair.1 → is_earlier pair other ≡ false
later_guard pair other h = grind (arith, nat_tests)

earlier_before : (k j x : ℕ) → j < x → is_earlier (j, k) (x, k) ≡ true
earlier_before k j x h = grind (arith, nat_tests)

later_before : (k j x : ℕ) → x < j → is_earlier (j, k) (x, k) ≡ false
later_before k j x h = grind (arith, nat_tests)

-- behind pairs whose places are before its own
placed_behind : (pair : ℕ × ℕ) (xs ys : List (ℕ × ℕ)) → ((q : ℕ × ℕ) → In q xs → is_earlier pair q ≡ false) → with_pair pair (xs ++ ys) ≡ xs
    ++ with_pair pair ys
placed_behind pair [] ys h = refl
placed_behind pair (x ∷ xs) ys h = cond-false (is_earlier pair x) (pair ∷ x ∷ (xs ++ ys)) (x ∷ (with_pair pair (xs ++ ys))) (h x (inl refl))
    ∙ ap (λ zs. x ∷ zs) (placed_behind pair xs ys (λ q i. h q (inr i)))

-- before pairs whose places are behind its own
placed_first : (pair : ℕ × ℕ) (ys : List (ℕ × ℕ)) → ((q : ℕ × ℕ) → In q ys → is_earlier pair q ≡ true) → with_pair pair ys ≡ pair ∷ ys
placed_first pair [] h = refl
placed_first pair (y ∷ ys) h = cond-true (is_earlier pair y) (pair ∷ y ∷ ys) (y ∷ (with_pair pair ys)) (h y (inl refl))

placed_before : (pair : ℕ × ℕ) (xs ys : List (ℕ × ℕ)) → ((q : ℕ × ℕ) → In q ys → is_earlier pair q ≡ true) → with_pair pair (xs ++ ys) ≡ with_pair pair xs ++ ys
placed_before pair [] ys h = placed_first pair ys h
placed_before pair (x ∷ xs) ys h =
    ap (λ zs. cond (is_earlier pair x) (pair ∷ x ∷ (xs ++ ys)) (x ∷ zs)) (placed_before pair xs ys h)
    ∙ cond_append pair x xs (with_pair pair xs) ys (is_earlier pair x)

-- the pairs of some numbers with a guard, those of a mask
abbrev listed : ℕ → ℕ → List ℕ → List (ℕ × ℕ)
listed guard mask xs = map (λ j. (j, guard)) (filter (has_bit mask) xs)

listed_true : (guard mask x : ℕ) (xs : List ℕ) → has_bit mask x ≡ true → listed guard mask (x ∷ xs) ≡ (x, guard) ∷ listed guard mask xs
listed_true guard mask x xs e = ap (map (λ j. (j, guard))) (filter_true (has_bit mask) x xs e)

listed_false : (guard mask x : ℕ) (xs : List ℕ) → has_bit mask x ≡ false → listed guard mask (x ∷ xs) ≡ listed guard mask xs
listed_false guard mask x xs e = ap (map (λ j. (j, guard))) (filter_false (has_bit mask) x xs e)

listed_later : (guard more mask j low n : ℕ) → IsWith more mask j → j < low
    → listed guard mask (range_with_len low n) ≡ listed guard more (range_with_len low n)
listed_later guard more mask j low zero is h = refl
listed_later guard more mask j low (suc n) is h =
    let same = other_bit more mask j low is (λ e. omega arith) in
    let rest = range_with_len (low + 1) n in
    let later = listed_later guard more mask j (low + 1) n is (omega arith) in
    elim (cases_Bool (has_bit mask low)) [
      | inl t ↦ listed_true guard mask low rest t ∙ ap (λ zs. (low, guard) ∷ zs) later ∙ sym (listed_true guard more low rest (same ∙ t))
      | inr f ↦ listed_false guard mask low rest f ∙ later ∙ sym (listed_false guard more low rest (same ∙ f))
    ]

in_listed : (guard mask low n : ℕ) (q : ℕ × ℕ) → In q (listed guard mask (range_with_len low n)) → (q.1 ≡ guard) × (low ≤ q.0)
in_listed guard mask low n q h =
    let mapped = in_map (λ k. (k, guard)) q (filter (has_bit mask) (range_with_len low n)) h in
    let kept = in_filter (has_bit mask) mapped.0 (range_with_len low n) mapped.1 in
    let within = in_numbers mapped.0 low n kept.1 in
    (ap (λ (p : ℕ × ℕ). p.1) mapped.2, (let e : q.0 ≡ mapped.0 = ap (λ (p : ℕ × ℕ). p.0) mapped.2 in let w = within.0 in omega arith))

-- the pairs of one guard from its first number on, with one more: where it is the first, and where it is later
here : (guard more mask j n : ℕ) → IsWith more mask j → has_bit mask j ≡ false
    → with_pair (j, guard) (listed guard mask (range_with_len j (suc n))) ≡ listed guard more (range_with_len j (suc n))
here guard more mask j n is none =
    let rest = range_with_len (j + 1) n in
    let bare : listed guard mask (j ∷ rest) ≡ listed guard mask rest = listed_false guard mask j rest none in
    let first : with_pair (j, guard) (listed guard mask rest) ≡ (j, guard) ∷ listed guard mask rest = placed_first (j, guard) (listed guard mask rest)
    (λ q i. (let w = in_listed guard mask (j + 1) n q i in let early = earlier_before guard j q.0 (let b = w.1 in omega arith) in subst
    (λ g. is_earlier (j, guard) (q.0, g) ≡ true) (sym w.0) early)) in
    let with_it : listed guard more (j ∷ rest) ≡ (j, guard) ∷ listed guard more rest = listed_true guard more j rest (own_bit more mask j is) in
    ap (with_pair (j, guard)) bare ∙ first ∙ ap (λ zs. (j, guard) ∷ zs) (listed_later guard more mask j (j + 1) n is (omega arith)) ∙ sym with_it

later : (guard more mask j low n : ℕ) → IsWith more mask j → low < j → (b : Bool) → has_bit mask low ≡ b
    → with_pair (j, guard) (listed guard mask (range_with_len (low + 1) n)) ≡ listed guard more (range_with_len (low + 1) n)
    → with_pair (j, guard) (listed guard mask (range_with_len low (suc n))) ≡ listed guard more (range_with_len low (suc n))
later guard more mask j low n is below true t rest_placed =
    let rest = range_with_len (low + 1) n in
    let bit : has_bit more low ≡ true = other_bit more mask j low is (λ e. omega arith) ∙ t in
    ap (with_pair (j, guard)) (listed_true guard mask low rest t)
    ∙ cond-false (is_earlier (j, guard) (low, guard)) ((j, guard) ∷ (low, guard) ∷ (listed guard mask rest))
    ((low, guard) ∷ (with_pair (j, guard) (listed guard mask rest))) (later_before guard j low below)
    ∙ ap (λ zs. (low, guard) ∷ zs) rest_placed
    ∙ sym (listed_true guard more low rest bit)
later guard more mask j low n is below false f rest_placed =
    let rest = range_with_len (low + 1) n in
    let bit : has_bit more low ≡ false = other_bit more mask j low is (λ e. omega arith) ∙ f in
    ap (with_pair (j, guard)) (listed_false guard mask low rest f) ∙ rest_placed ∙ sym (listed_false guard more low rest bit)

placed_here : (guard more mask j low n : ℕ) → IsWith more mask j → has_bit mask j ≡ false → low ≤ j → j < low + n
    → with_pair (j, guard) (listed guard mask (range_with_len low n)) ≡ listed guard more (range_with_len low n)
placed_here guard more mask j low zero is none least most = absurd (omega arith)
placed_here guard more mask j low (suc n) is none least most = elim (eqb_tells low j) [
  | inl e ↦ subst (λ k. with_pair (j, guard) (listed guard mask (range_with_len k (suc n))) ≡ listed guard more (range_with_len k (suc n))) (sym e.1)
      (here guard more mask j n is none)
  | inr ne ↦ (let q = ne.1 in let below : low < j = omega arith in later guard more mask j low n is below (has_bit mask low) refl
      (placed_here guard more mask j (low + 1) n is none (omega arith) (omega arith)))
]

in_from : (k : ℕ) (masks : List ℕ) (q : ℕ × ℕ) → In q (pairs_from k masks) → k ≤ q.1
in_from k [] q h = absurd h
in_from k (m ∷ ms) q h = elim (in_append q (pairs_at k m) (pairs_from (k + 1) ms) h) [
  | inl here ↦ (let w = in_listed k m 0 64 q here in let e = w.0 in omega arith)
  | inr later ↦ (let w = in_from (k + 1) ms q later in omega arith)
]

-- the pairs of masks, with one more
placed_from : (j k d more : ℕ) (masks : List ℕ) → d < length masks → j < 64 → has_bit (get_or masks d 0) j ≡ false → IsWith more (get_or masks d 0) j
    → with_pair (j, k + d) (pairs_from k masks) ≡ pairs_from k (set masks d more)
placed_from j k d more [] below fits none is = absurd (omega arith)
placed_from j k zero more (m ∷ ms) below fits none is =
    let same : k + 0 ≡ k = omega arith in
    ap (λ g. with_pair (j, g) (pairs_at k m ++ pairs_from (k + 1) ms)) same
    ∙ placed_before (j, k) (pairs_at k m) (pairs_from (k + 1) ms) (λ q i. earlier_guard (j, k) q (let w = in_from (k + 1) ms q i in omega arith))
    ∙ ap (λ xs. xs ++ pairs_from (k + 1) ms) (placed_here k more m j 0 64 is none (omega arith) (omega arith))
placed_from j k (suc d) more (m ∷ ms) below fits none is =
    let same : k + suc d ≡ (k + 1) + d = omega arith in
    placed_behind (j, k + suc d) (pairs_at k m) (pairs_from (k + 1) ms)
    (λ q i. later_guard (j, k + suc d) q (let w = in_listed k m 0 64 q i in let e = w.0 in omega arith))
    ∙ ap (λ g. pairs_at k m ++ with_pair (j, g) (pairs_from (k + 1) ms)) same
    ∙ ap (λ xs. pairs_at k m ++ xs) (placed_from j (k + 1) d more ms (omega arith) fits none is)

pub placed_pair : (j i more : ℕ) (masks : List ℕ) → i < length masks → j < 64 → has_bit (get_or masks i 0) j ≡ false → IsWith more (get_or masks i 0) j
    → pairs_from 0 (set masks i more) ≡ with_pair (j, i) (pairs_from 0 masks)
placed_pair j i more masks below fits none is =
    let same : i ≡ 0 + i = omega arith in
    sym (ap (λ g. with_pair (j, g) (pairs_from 0 masks)) same ∙ placed_from j 0 i more masks below fits none is)
