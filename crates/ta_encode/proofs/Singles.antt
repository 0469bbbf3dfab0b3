-- the unknowns of an element stand behind those of the elements before it, and one of the Singles of a Fall is 1
use Rattle.ta_encode.proofs.Common.{◌≡◌, inl, inr, ℕ, zero, suc, ◌+◌, ◌<◌, ℤ, pos, ◌+ℤ◌, List, [], ◌∷◌, ◌++◌, map, length, drop, arith, sym, ap, ◌∙◌, subst}
use Rattle.ta_encode.proofs.Common.{slice_get, Some, length-map, ints, AllByRecursion, each_append, each_at, each_map_all, get_drop, get_of_drop, get_of_map}
use Rattle.ta_encode.proofs.Common.{get_parts, get_right, only_in, Automaton, Pattern, has_bit, range_with_len, In, Element, Event, Rise, Fall, allowed_rules}
use Rattle.ta_encode.proofs.Common.{Meaning, Parameter, Start, Count, Single, meanings, counts_after, singles_after, start_locations, start_meanings, opposite}
use Rattle.ta_encode.proofs.Common.{counter_rows, guard_rows, singles_row, fall_rows, sum_of_products, AllHold, IsOne, get_map as map_get, replicate}
use Rattle.ta_base.proofs.Lists.{none_repeated}
use Rattle.ta_base.proofs.Members.{In-right}
use Rattle.ta_encode.proofs.Combine.{combine-zero}
use Rattle.ta_encode.proofs.Moments.{opposite_value, AllHold-left}
use Rattle.ta_encode.proofs.Values.{unfolded, unfolded-count, AllHold-right}

combine-cut : (cs ds : List ℤ) (vs : List ℕ) → sum_of_products (cs ++ ds) vs ≡ (sum_of_products cs vs +ℤ sum_of_products ds (drop (length cs) vs))
unfolding sum_of_products
combine-cut [] ds vs = omega (arith, ints)
combine-cut (c ∷ cs) [] [] = omega (arith, ints)
combine-cut (c ∷ cs) (d ∷ ds) [] = omega (arith, ints)
combine-cut (c ∷ cs) ds (v ∷ vs) = omega (arith, ints, combine-cut cs ds vs)

pub one_single : (before : List Meaning) (al vs : List ℕ) → AllHold vs (singles_row before al ∷ opposite (singles_row before al) ∷ [])
    → length (unfolded al (drop (length before) vs)) ≡ 1
one_single before al vs h =
    let cut = combine-cut (map (λ (m : Meaning). pos 0) before) (map (λ (r : ℕ). pos 1) al) vs in
    let len = ap (λ n. sum_of_products (map (λ (r : ℕ). pos 1) al) (drop n vs)) (length-map before (λ (m : Meaning). pos 0)) in
    let sum : pos (length (unfolded al (drop (length before) vs))) ≡ pos 1 = omega
    (arith, ints, cut, len, combine-zero before vs, unfolded-count al (drop (length before) vs), h.0, h.1.0, opposite_value vs (singles_row before al)) in
    omega (arith, ints, sum)

-- the rows of a Fall say that the Singles add up to 1
pub singles_hold : (a : Automaton) (p : Pattern) (start : ℕ) (past : List Element) (before end : List Meaning) (mask : ℕ) (vs : List ℕ)
    → AllHold vs (fall_rows a p start past before end mask)
    → AllHold vs (singles_row before (allowed_rules a p start past) ∷ opposite (singles_row before (allowed_rules a p start past)) ∷ [])
unfolding fall_rows
singles_hold a p start past before end mask vs h =
    AllHold-left vs (singles_row before (allowed_rules a p start past) ∷ opposite (singles_row before (allowed_rules a p start past)) ∷ []) _
    (AllHold-right vs (guard_rows a before (has_bit mask) 0 a.fall) _
    (AllHold-right vs (counter_rows a p before) _ h))

-- an unknown of an element has the number of one of the first elements
abbrev pub NumberBelow : ℕ → Meaning → Type 0
NumberBelow n (Parameter i) = Unit {0}
NumberBelow n (Start l) = Unit {0}
NumberBelow n (Count k r) = k < n
NumberBelow n (Single k r) = k < n

below_more : (n : ℕ) (m : Meaning) → NumberBelow n m → NumberBelow (suc n) m
below_more n (Parameter i) h = tt
below_more n (Start l) h = tt
below_more n (Count k r) h = omega arith
below_more n (Single k r) h = omega arith

each_more : (n : ℕ) (ms : List Meaning) → AllByRecursion (NumberBelow n) ms → AllByRecursion (NumberBelow (suc n)) ms
each_more n [] h = tt
each_more n (m ∷ ms) h = (below_more n m h.0, each_more n ms h.1)

pub counts_below : (a : Automaton) (p : Pattern) (start : ℕ) (past : List Element)
    → AllByRecursion (NumberBelow (suc (length past))) (counts_after a p start past)
counts_below a p start past = each_map_all (NumberBelow (suc (length past))) (Count (length past)) (allowed_rules a p start past) (λ r. omega arith)

-- the unknowns of a word have the numbers of its elements
pub numbers_below : (a : Automaton) (p : Pattern) (start : ℕ) (past : List Element) → AllByRecursion (NumberBelow (length past)) (meanings a p start past)
unfolding meanings start_meanings
numbers_below a p start [] = each_append (NumberBelow 0) (map Parameter (range_with_len 0 (length a.parameters))) (map Start (start_locations a p))
    (each_map_all (NumberBelow 0) Parameter (range_with_len 0 (length a.parameters)) (λ i. tt))
    (each_map_all (NumberBelow 0) Start (start_locations a p) (λ l. tt))
numbers_below a p start (Event e ∷ past) = each_append (NumberBelow (suc (length past))) (meanings a p start past) (counts_after a p start past)
    (each_more (length past) (meanings a p start past) (numbers_below a p start past)) (counts_below a p start past)
numbers_below a p start (Rise i ∷ past) = each_append (NumberBelow (suc (length past))) (meanings a p start past) (counts_after a p start past)
    (each_more (length past) (meanings a p start past) (numbers_below a p start past)) (counts_below a p start past)
numbers_below a p start (Fall mask ∷ past) =
    each_append (NumberBelow (suc (length past))) (meanings a p start past ++ counts_after a p start past) (singles_after a p start past)
    (each_append (NumberBelow (suc (length past))) (meanings a p start past) (counts_after a p start past)
    (each_more (length past) (meanings a p start past) (numbers_below a p start past)) (counts_below a p start past))
    (each_map_all (NumberBelow (suc (length past))) (Single (length past)) (allowed_rules a p start past) (λ r. omega arith))

-- no unknown before the Singles of an element is one of them
pub not_single : (a : Automaton) (p : Pattern) (start : ℕ) (past : List Element) (i r : ℕ)
    → slice_get (meanings a p start past ++ counts_after a p start past) i ≡ Some (Single (length past) r) → ⊥
not_single a p start past i r at = elim (get_parts (meanings a p start past) (counts_after a p start past) i (Single (length past) r) at) [
  | inl h ↦
      (let b : length past < length past =
      each_at (NumberBelow (length past)) (meanings a p start past) i (Single (length past) r) (numbers_below a p start past) h in omega arith)
  | inr w ↦ no_single (length past) (allowed_rules a p start past) w.0 r w.2
] where
  no_single : (n : ℕ) (rs : List ℕ) (j q : ℕ) → slice_get (map (Count n) rs) j ≡ Some (Single n q) → ⊥
  no_single n [] j q e = cc
  no_single n (x ∷ rs) zero q e = cc
  no_single n (x ∷ rs) (suc j) q e = no_single n rs j q e

-- a list of one item that has a rule with the value 1 is that rule
in_unfolded : (al ws : List ℕ) (j r : ℕ) → slice_get al j ≡ Some r → slice_get ws j ≡ Some 1 → In r (unfolded al ws)
in_unfolded [] ws j r at one = absurd (cc)
in_unfolded (q ∷ al) [] j r at one = absurd (cc)
in_unfolded (q ∷ al) (v ∷ ws) zero r at one = let e : q ≡ r = cc in let f : v ≡ 1 = cc in subst (λ (n : ℕ). In r (replicate n q ++ unfolded al ws)) (sym f)
    (inl (sym e))
in_unfolded (q ∷ al) (v ∷ ws) (suc j) r at one = In-right r (replicate v q) (unfolded al ws) (in_unfolded al ws j r at one)

-- the rule whose Single is 1 is the only one
pub only_single : (a : Automaton) (p : Pattern) (start : ℕ) (past : List Element) (mask : ℕ) (vs : List ℕ) (r : ℕ)
    → IsOne (meanings a p start (Fall mask ∷ past)) vs (Single (length past) r)
    → length (unfolded (allowed_rules a p start past) (drop (length (meanings a p start past ++ counts_after a p start past)) vs)) ≡ 1
    → unfolded (allowed_rules a p start past) (drop (length (meanings a p start past ++ counts_after a p start past)) vs) ≡ r ∷ []
unfolding meanings
only_single a p start past mask vs r one size =
    let before = meanings a p start past ++ counts_after a p start past in
    let al = allowed_rules a p start past in
    elim (get_parts before (singles_after a p start past) one.0 (Single (length past) r) one.1) [
      | inl h ↦ absurd (not_single a p start past one.0 r h)
      | inr w ↦ (
          let m = get_of_map (Single (length past)) al w.0 (Single (length past) r) w.2 in
          let same : m.0 ≡ r = same_rule (length past) m.0 r m.2 in
          let value = get_drop (length before) vs w.0 1 (subst (λ (k : ℕ). slice_get vs k ≡ Some 1) w.1 one.2) in
          only_in (unfolded al (drop (length before) vs)) r size (in_unfolded al (drop (length before) vs) w.0 r (m.1 ∙ ap Some same) value))
    ] where
      same_rule : (k x y : ℕ) → Single k x ≡ Single k y → x ≡ y
      same_rule k x y e = cc

-- where the unfolded list is one rule, its value is 1
one_at : (al ws : List ℕ) (r : ℕ) → unfolded al ws ≡ r ∷ [] → (j : ℕ) × (slice_get al j ≡ Some r) × (slice_get ws j ≡ Some 1)
one_at [] ws r e = absurd (cc)
one_at (q ∷ al) [] r e = absurd (cc)
one_at (q ∷ al) (zero ∷ ws) r e = let w = one_at al ws r e in (suc w.0, w.1, w.2)
one_at (q ∷ al) (suc n ∷ ws) r e =
    let first : q ≡ r = cc in
    let rest : replicate n q ++ unfolded al ws ≡ [] = cc in
    (0, ap Some first, ap (λ k. Some (suc k)) (none_repeated n q (unfolded al ws) rest))

-- the only rule is the one whose Single is 1
pub single_one : (a : Automaton) (p : Pattern) (start : ℕ) (past : List Element) (mask : ℕ) (vs : List ℕ) (r : ℕ)
    → unfolded (allowed_rules a p start past) (drop (length (meanings a p start past ++ counts_after a p start past)) vs) ≡ r ∷ []
    → IsOne (meanings a p start (Fall mask ∷ past)) vs (Single (length past) r)
unfolding meanings
single_one a p start past mask vs r e =
    let before = meanings a p start past ++ counts_after a p start past in
    let al = allowed_rules a p start past in
    let w = one_at al (drop (length before) vs) r e in (
      length before + w.0,
      get_right before (singles_after a p start past) w.0 (Single (length past) r) (map_get (Single (length past)) al w.0 r w.1),
      get_of_drop (length before) vs w.0 1 w.2,
    )
