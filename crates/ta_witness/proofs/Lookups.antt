-- the value of an unknown, by what it stands for
use Rattle.ta_witness.proofs.Common.{◌≡◌, ◌≢◌, inl, inr, ℕ, zero, suc, ◌+◌, ◌<◌, ◌≤◌, ℤ, pos, ◌*ℤ◌, List, [], ◌∷◌, ◌++◌, map, length, drop, eqb, cond, Bool}
use Rattle.ta_witness.proofs.Common.{true, false, arith, refl, sym, ap, ◌∙◌, subst, slice_get, Some, filter, ints, cases_Bool, and_parts, eqb-true, true≢false}
use Rattle.ta_witness.proofs.Common.{nat_tests, eqb_tells, AllByRecursion, filter_false, filter_true, other_number, same_number, Automaton, Pattern}
use Rattle.ta_witness.proofs.Common.{range_with_len, In, total, Element, Event, Rise, Fall, allowed_rules, Meaning, Parameter, Start, Count, Single, meanings}
use Rattle.ta_witness.proofs.Common.{counts_after, singles_after, sum_of_products, NumberBelow, numbers_below, same_meaning, unknown_value, drop-map}
use Rattle.ta_witness.proofs.Common.{total-within}
use Rattle.std.proofs.Math.IntN.{*ℤ-zero}
use Rattle.ta_base.proofs.Integers.{pos_cond}
use Rattle.ta_base.proofs.Totals.{total-zero}

-- no unknown of a list stands for this
abbrev pub Lacks : Meaning → List Meaning → Type 0
Lacks m ms = AllByRecursion (λ n. same_meaning n m ≡ false) ms

pub none : (ms : List Meaning) (vs : List ℤ) (m : Meaning) → Lacks m ms → unknown_value ms vs m ≡ pos 0
unfolding unknown_value
none [] vs m h = refl
none (n ∷ ms) [] m h = refl
none (n ∷ ms) (v ∷ vs) m h = rw h.0 (none ms vs m h.1)

pub skip : (ms ns : List Meaning) (vs : List ℤ) (m : Meaning) → Lacks m ms → unknown_value (ms ++ ns) vs m ≡ unknown_value ns (drop (length ms) vs) m
unfolding unknown_value
skip [] ns vs m h = refl
skip (n ∷ ms) [] [] m h = refl
skip (n ∷ ms) (k ∷ ns) [] m h = refl
skip (n ∷ ms) ns (v ∷ vs) m h = rw h.0 (skip ms ns vs m h.1)

pub keep : (ms ns : List Meaning) (vs : List ℤ) (m : Meaning) → Lacks m ns → unknown_value (ms ++ ns) vs m ≡ unknown_value ms vs m
unfolding unknown_value
keep [] ns vs m h = none ns vs m h
keep (n ∷ ms) ns [] m h = refl
keep (n ∷ ms) ns (v ∷ vs) m h = ap (λ z. cond (same_meaning n m) v z) (keep ms ns vs m h)

pub lacks_append : (m : Meaning) (ms ns : List Meaning) → Lacks m ms → Lacks m ns → Lacks m (ms ++ ns)
lacks_append m [] ns h g = g
lacks_append m (k ∷ ms) ns h g = (h.0, lacks_append m ms ns h.1 g)

pub lacks_map : (m : Meaning) (f : ℕ → Meaning) (xs : List ℕ) → ((x : ℕ) → same_meaning (f x) m ≡ false) → Lacks m (map f xs)
lacks_map m f [] h = tt
lacks_map m f (x ∷ xs) h = (h x, lacks_map m f xs h)

below_count : (k r : ℕ) (n : Meaning) → NumberBelow k n → same_meaning n (Count k r) ≡ false
below_count k r (Count j q) h = other_number j k q r (λ e. omega arith)
below_count k r _ h = refl

below_single : (k r : ℕ) (n : Meaning) → NumberBelow k n → same_meaning n (Single k r) ≡ false
below_single k r (Single j q) h = other_number j k q r (λ e. omega arith)
below_single k r _ h = refl

each_lacks : (k : ℕ) (m : Meaning) (ms : List Meaning) → ((n : Meaning) → NumberBelow k n → same_meaning n m ≡ false) → AllByRecursion (NumberBelow k) ms
    → Lacks m ms
each_lacks k m [] h b = tt
each_lacks k m (n ∷ ms) h b = (h n b.0, each_lacks k m ms h b.1)

-- an unknown that isn't one of an element
abbrev pub OtherElement : ℕ → Meaning → Type 0
OtherElement n (Parameter i) = Unit {0}
OtherElement n (Start l) = Unit {0}
OtherElement n (Count k r) = n ≢ k
OtherElement n (Single k r) = n ≢ k

other_count : (n q : ℕ) (m : Meaning) → OtherElement n m → same_meaning (Count n q) m ≡ false
other_count n q (Count k r) h = other_number n k q r h
other_count n q _ h = refl

other_single : (n q : ℕ) (m : Meaning) → OtherElement n m → same_meaning (Single n q) m ≡ false
other_single n q (Single k r) h = other_number n k q r h
other_single n q _ h = refl

-- the unknowns of an element change no value of the others
pub newer : (a : Automaton) (p : Pattern) (start : ℕ) (e : Element) (past : List Element) (vs : List ℤ) (m : Meaning) → OtherElement (length past) m
    → unknown_value (meanings a p start (e ∷ past)) vs m ≡ unknown_value (meanings a p start past) vs m
unfolding meanings
newer a p start (Event e) past vs m h = keep (meanings a p start past) (counts_after a p start past) vs m
    (lacks_map m (Count (length past)) (allowed_rules a p start past) (λ q. other_count (length past) q m h))
newer a p start (Rise i) past vs m h = keep (meanings a p start past) (counts_after a p start past) vs m
    (lacks_map m (Count (length past)) (allowed_rules a p start past) (λ q. other_count (length past) q m h))
newer a p start (Fall mask) past vs m h =
    keep (meanings a p start past ++ counts_after a p start past) (singles_after a p start past) vs m
    (lacks_map m (Single (length past)) (allowed_rules a p start past) (λ q. other_single (length past) q m h))
    ∙ keep (meanings a p start past) (counts_after a p start past) vs m
    (lacks_map m (Count (length past)) (allowed_rules a p start past) (λ q. other_count (length past) q m h))

-- the value that stands with a rule
unfoldable pub value_for : List ℕ → List ℕ → ℕ → ℕ
value_for [] ws r = 0
value_for (q ∷ rs) [] r = 0
value_for (q ∷ rs) (w ∷ ws) r = cond (eqb q r) w (value_for rs ws r)

counts_found : (k r : ℕ) (rs ws : List ℕ) → unknown_value (map (Count k) rs) (map pos ws) (Count k r) ≡ pos (value_for rs ws r)
unfolding unknown_value value_for
counts_found k r [] ws = refl
counts_found k r (q ∷ rs) [] = refl
counts_found k r (q ∷ rs) (w ∷ ws) = ap (λ b. cond b (pos w) (unknown_value (map (Count k) rs) (map pos ws) (Count k r))) (same_number k q r)
    ∙ ap (λ z. cond (eqb q r) (pos w) z) (counts_found k r rs ws) ∙ pos_cond (eqb q r) w (value_for rs ws r)

singles_found : (k r : ℕ) (rs ws : List ℕ) → unknown_value (map (Single k) rs) (map pos ws) (Single k r) ≡ pos (value_for rs ws r)
unfolding unknown_value value_for
singles_found k r [] ws = refl
singles_found k r (q ∷ rs) [] = refl
singles_found k r (q ∷ rs) (w ∷ ws) = ap (λ b. cond b (pos w) (unknown_value (map (Single k) rs) (map pos ws) (Single k r))) (same_number k q r)
    ∙ ap (λ z. cond (eqb q r) (pos w) z) (singles_found k r rs ws) ∙ pos_cond (eqb q r) w (value_for rs ws r)

behind_counts : (a : Automaton) (p : Pattern) (start : ℕ) (past : List Element) (vs : List ℕ) (r : ℕ)
    → unknown_value (meanings a p start past ++ counts_after a p start past) (map pos vs) (Count (length past) r) ≡ pos
    (value_for (allowed_rules a p start past) (drop (length (meanings a p start past)) vs) r)
behind_counts a p start past vs r =
    let k = length past in
    let ms = meanings a p start past in
    skip ms (counts_after a p start past) (map pos vs) (Count k r) (each_lacks k (Count k r) ms (below_count k r) (numbers_below a p start past))
    ∙ ap (λ (ws : List ℤ). unknown_value (counts_after a p start past) ws (Count k r)) (drop-map pos (length ms) vs)
    ∙ counts_found k r (allowed_rules a p start past) (drop (length ms) vs)

-- the value of a Count of the newest element
pub count_value : (a : Automaton) (p : Pattern) (start : ℕ) (e : Element) (past : List Element) (vs : List ℕ) (r : ℕ)
    → unknown_value (meanings a p start (e ∷ past)) (map pos vs) (Count (length past) r) ≡ pos
    (value_for (allowed_rules a p start past) (drop (length (meanings a p start past)) vs) r)
unfolding meanings
count_value a p start (Event e) past vs r = behind_counts a p start past vs r
count_value a p start (Rise i) past vs r = behind_counts a p start past vs r
count_value a p start (Fall mask) past vs r =
    keep (meanings a p start past ++ counts_after a p start past) (singles_after a p start past) (map pos vs) (Count (length past) r)
    (lacks_map (Count (length past) r) (Single (length past)) (allowed_rules a p start past) (λ q. refl))
    ∙ behind_counts a p start past vs r

-- the value of a Single of the newest element
pub single_value : (a : Automaton) (p : Pattern) (start : ℕ) (mask : ℕ) (past : List Element) (vs : List ℕ) (r : ℕ)
    → unknown_value (meanings a p start (Fall mask ∷ past)) (map pos vs) (Single (length past) r) ≡ pos
    (value_for (allowed_rules a p start past) (drop (length (meanings a p start past ++ counts_after a p start past)) vs) r)
unfolding meanings
single_value a p start mask past vs r =
    let k = length past in
    let ms = meanings a p start past ++ counts_after a p start past in
    let lacks = lacks_append (Single k r) (meanings a p start past) (counts_after a p start past)
    (each_lacks k (Single k r) (meanings a p start past) (below_single k r) (numbers_below a p start past))
    (lacks_map (Single k r) (Count k) (allowed_rules a p start past) (λ q. refl)) in
    skip ms (singles_after a p start past) (map pos vs) (Single k r) lacks
    ∙ ap (λ (ws : List ℤ). unknown_value (singles_after a p start past) ws (Single k r)) (drop-map pos (length ms) vs)
    ∙ singles_found k r (allowed_rules a p start past) (drop (length ms) vs)

-- a rule with a value above 0 is in the list
pub value_in_list : (rs ws : List ℕ) (r : ℕ) → 1 ≤ value_for rs ws r → In r rs
unfolding value_for
value_in_list [] ws r h = absurd (omega arith)
value_in_list (q ∷ rs) [] r h = absurd (omega arith)
value_in_list (q ∷ rs) (w ∷ ws) r h = elim (eqb_tells q r) [
  | inl e ↦ inl (sym e.1)
  | inr ne ↦ inr (value_in_list rs ws r (rw ne.0 at h))
]

-- a value that is 1 is that of an unknown
same_means : (n m : Meaning) → same_meaning n m ≡ true → n ≡ m
same_means (Parameter i) (Parameter j) e = ap Parameter (eqb-true i j e)
same_means (Start l) (Start k) e = ap Start (eqb-true l k e)
same_means (Count j q) (Count k r) e = let w = and_parts (eqb j k) (eqb q r) e in let s = eqb-true j k w.0 in let t = eqb-true q r w.1 in cc
same_means (Single j q) (Single k r) e = let w = and_parts (eqb j k) (eqb q r) e in let s = eqb-true j k w.0 in let t = eqb-true q r w.1 in cc
same_means _ _ e = absurd (true≢false (sym e))

pub one_found : (ms : List Meaning) (vs : List ℕ) (m : Meaning) → unknown_value ms (map pos vs) m ≡ pos 1 → (i : ℕ) × (slice_get ms i ≡ Some m)
    × (slice_get vs i ≡ Some 1)
unfolding unknown_value
one_found [] vs m e = absurd (omega (arith, ints, e))
one_found (n ∷ ms) [] m e = absurd (omega (arith, ints, e))
one_found (n ∷ ms) (v ∷ vs) m e = elim (cases_Bool (same_meaning n m)) [
  | inl t ↦ (
      let one : pos v ≡ pos 1 = (rw t at e) in
      let is : v ≡ 1 = omega (arith, ints, one) in
      (0, ap (λ (k : Meaning). Some k) (same_means n m t), ap (λ (k : ℕ). Some k) is))
  | inr f ↦ (let w = one_found ms vs m (rw f at e) in (suc w.0, w.1, w.2))
]

-- sums over the rules that pass a test, by the values that stand with them
skip_value : (q : ℕ) (rs ws : List ℕ) (r : ℕ) → q ≢ r → ((vs : List ℕ) → value_for rs vs r ≡ 0) → value_for (q ∷ rs) ws r ≡ 0
unfolding value_for
skip_value q rs [] r ne h = refl
skip_value q rs (w ∷ ws) r ne h = let s : eqb q r ≡ false = grind (arith, nat_tests) in rw s (h ws)

none_low : (test : ℕ → Bool) (low n : ℕ) (ws : List ℕ) (r : ℕ) → r < low → value_for (filter test (range_with_len low n)) ws r ≡ 0
unfolding value_for
none_low test low zero ws r b = refl
none_low test low (suc n) ws r b = elim (cases_Bool (test low)) [
  | inl e ↦ ap (λ (rs : List ℕ). value_for rs ws r) (filter_true test low (range_with_len (low + 1) n) e)
      ∙ skip_value low (filter test (range_with_len (low + 1) n)) ws r (λ q. omega arith) (λ vs. none_low test (low + 1) n vs r (omega arith))
  | inr e ↦ ap (λ (rs : List ℕ). value_for rs ws r) (filter_false test low (range_with_len (low + 1) n) e) ∙ none_low test (low + 1) n ws r (omega arith)
]

-- what the rules add, each as often as the value that stands with it
abbrev Adds : (ℕ → ℤ) → ℕ → ℕ → List ℕ → List ℕ → Type 0
Adds g low n rs ws = total (λ r. g r *ℤ pos (value_for rs ws r)) (range_with_len low n) ≡ sum_of_products (map g rs) ws

first_adds : (g : ℕ → ℤ) (low n : ℕ) (rs ws : List ℕ) → ((vs : List ℕ) → Adds g (low + 1) n rs vs) → Adds g low (suc n) (low ∷ rs) ws
unfolding total sum_of_products value_for
first_adds g low n rs [] h = total-zero (λ r. g r *ℤ pos 0) (low ∷ range_with_len (low + 1) n) (λ r. *ℤ-zero (g r))
first_adds g low n rs (w ∷ ws) h =
    let here : cond (eqb low low) w (value_for rs ws low) ≡ w = (let s : eqb low low ≡ true = grind (arith, nat_tests) in rw s refl) in
    let rest = total-within (λ r. g r *ℤ pos (cond (eqb low r) w (value_for rs ws r))) (λ r. g r *ℤ pos (value_for rs ws r)) (low + 1) n
    (λ r b _. (let s : eqb low r ≡ false = grind (arith, nat_tests) in rw s refl)) in
    omega (arith, ints, ap (λ (k : ℕ). g low *ℤ pos k) here, rest, h ws)

other_adds : (g : ℕ → ℤ) (low n : ℕ) (rs ws : List ℕ) → value_for rs ws low ≡ 0 → Adds g (low + 1) n rs ws → Adds g low (suc n) rs ws
unfolding total
other_adds g low n rs ws none h = omega (arith, ints, ap (λ (k : ℕ). g low *ℤ pos k) none, *ℤ-zero (g low), h)

pub value_sum : (g : ℕ → ℤ) (test : ℕ → Bool) (low n : ℕ) (ws : List ℕ)
    → total (λ r. g r *ℤ pos (value_for (filter test (range_with_len low n)) ws r)) (range_with_len low n) ≡ sum_of_products
    (map g (filter test (range_with_len low n))) ws
unfolding total sum_of_products
value_sum g test low zero ws = refl
value_sum g test low (suc n) ws = elim (cases_Bool (test low)) [
  | inl e ↦ subst (λ (rs : List ℕ). Adds g low (suc n) rs ws) (sym (filter_true test low (range_with_len (low + 1) n) e))
      (first_adds g low n (filter test (range_with_len (low + 1) n)) ws (λ vs. value_sum g test (low + 1) n vs))
  | inr e ↦ subst (λ (rs : List ℕ). Adds g low (suc n) rs ws) (sym (filter_false test low (range_with_len (low + 1) n) e))
      (other_adds g low n (filter test (range_with_len (low + 1) n)) ws (none_low test (low + 1) n ws low (omega arith)) (value_sum g test (low + 1) n ws))
]
