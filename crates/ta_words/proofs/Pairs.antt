-- rise guards that come after others
use Rattle.ta_words.proofs.Common.{◌≡◌, inl, inr, ℕ, ◌-◌, ◌^◌, ◌<◌, ◌≤◌, List, [], ◌∷◌, ◌++◌, length, map, cond, Bool, true, false, not, ◌&&◌, arith, sym, ap}
use Rattle.ta_words.proofs.Common.{◌∙◌, refl, filter, ◌==◌, true≢false, and_from, and_parts, eq-eqb, eqb-true, all_below, has_bit, implies, range_with_len, In}
use Rattle.ta_words.proofs.Common.{all_below-at, all_below-from, has_above, and_right, both_ways, implies-at, implies-from, Automaton, Pattern, IsSeen}
use Rattle.ta_words.proofs.Common.{NamesBefore, has_rise, is_complete, is_due, is_ready, is_standing, may_rise, children, Element, Event, Rise, Fall, Seen}
use Rattle.ta_words.proofs.Common.{cases_lt}
use Rattle.std.proofs.Math.Path.{fun_ext}
use Rattle.ta_base.specs.Lists.{SameMembers}

-- a guard that is due has those before it in the word
pub due_at : (pairs : List (ℕ × ℕ)) (past : List Element) (i j : ℕ) → is_due pairs past i ≡ true → In (j, i) pairs → has_rise past j ≡ true
due_at [] past i j h m = absurd m
due_at (pair ∷ pairs) past i j h (inl e) =
    let here = implies-at (pair.1 == i) (has_rise past pair.0) (and_parts _ _ h).0 (eq-eqb pair.1 i (sym (ap (λ (q : ℕ × ℕ). q.1) e))) in
    ap (has_rise past) (ap (λ (q : ℕ × ℕ). q.0) e) ∙ here
due_at (pair ∷ pairs) past i j h (inr m) = due_at pairs past i j (and_parts _ _ h).1 m

-- a guard is due where those before it are in the word
pub due_from : (pairs : List (ℕ × ℕ)) (past : List Element) (i : ℕ) → ((j : ℕ) → In (j, i) pairs → has_rise past j ≡ true) → is_due pairs past i ≡ true
due_from [] past i h = refl
due_from (pair ∷ pairs) past i h =
    let here : (pair.1 == i) ≡ true → has_rise past pair.0 ≡ true = λ t. h pair.0 (inl (ap (λ (k : ℕ). (pair.0, k)) (sym (eqb-true pair.1 i t)))) in
    and_from (implies (pair.1 == i) (has_rise past pair.0)) (is_due pairs past i) (implies-from (pair.1 == i) (has_rise past pair.0) here)
    (due_from pairs past i (λ j m. h j (inr m)))

-- only which pairs there are counts
pub same_due : (xs ys : List (ℕ × ℕ)) (past : List Element) (i : ℕ) → SameMembers xs ys → is_due xs past i ≡ is_due ys past i
same_due xs ys past i same =
    both_ways (is_due xs past i) (is_due ys past i)
    (λ t. due_from ys past i (λ j m. due_at xs past i j t ((same (j, i)).1 m)))
    (λ t. due_from xs past i (λ j m. due_at ys past i j t ((same (j, i)).0 m)))

pub same_children : (a : Automaton) (p : Pattern) (xs ys : List (ℕ × ℕ)) (start : ℕ) (past : List Element) → SameMembers xs ys
    → children a p xs start past ≡ children a p ys start past
unfolding children
same_children a p xs ys start past same =
    ap (λ (test : ℕ → Bool). cond (is_complete p past) []
    (map Event (filter (is_ready p past) (range_with_len 0 (length p.events)))
    ++ (map Rise (filter test (range_with_len 0 (length a.rise)))
    ++ map Fall (filter (is_standing a start past) (range_with_len 1 (2 ^ length a.fall - 1))))))
    (fun_ext (λ i. ap (λ b. b && not (has_rise past i)) (same_due xs ys past i same)))

-- the mask of the guards before one tells whether it is due
pub due_by_mask : (pairs : List (ℕ × ℕ)) (rise mask n : ℕ) (seen : Seen) (start : ℕ) (past : List Element) → mask < 2 ^ n → n ≤ 128
    → NamesBefore pairs rise mask
    → IsSeen seen start past
    → all_below n (λ j. implies (has_bit mask j) (has_bit seen.rises j)) ≡ is_due pairs past rise
due_by_mask pairs rise mask n seen start past within few names is =
    both_ways _ _
    (λ t. due_from pairs past rise (λ j m.
    let bit = (names j).1 m in
    elim (cases_lt j n) [
      | inl b ↦ sym (is.rises j (omega arith)) ∙ implies-at (has_bit mask j) (has_bit seen.rises j)
          (all_below-at n (λ k. implies (has_bit mask k) (has_bit seen.rises k)) t j b) bit
      | inr b ↦ absurd (true≢false (sym bit ∙ has_above mask n j within b))
    ]))
    (λ t. all_below-from n (λ j. implies (has_bit mask j) (has_bit seen.rises j))
    (λ j b. implies-from (has_bit mask j) (has_bit seen.rises j) (λ bit. is.rises j (omega arith) ∙ due_at pairs past rise j t ((names j).0 bit))))

-- so it tells whether a guard may come that isn't in the word
pub may_by_mask : (pairs : List (ℕ × ℕ)) (rise mask from n : ℕ) (seen : Seen) (start : ℕ) (past : List Element) (r : Bool) → from ≡ mask → mask < 2 ^ n
    → n ≤ 128
    → rise < 128 → has_bit seen.rises rise ≡ false
    → ((k : ℕ) → from < 2 ^ k → r ≡ all_below k (λ j. implies (has_bit from j) (has_bit seen.rises j)))
    → NamesBefore pairs rise mask → IsSeen seen start past → r ≡ may_rise pairs past rise
may_by_mask pairs rise mask from n seen start past r same within few below new told names is =
    let bound : from < 2 ^ n = rw same within in
    told n bound ∙ ap (λ m. all_below n (λ j. implies (has_bit m j) (has_bit seen.rises j))) same
    ∙ due_by_mask pairs rise mask n seen start past within few names is
    ∙ sym (and_right (is_due pairs past rise) (not (has_rise past rise)) (ap not (sym (is.rises rise below) ∙ new)))
