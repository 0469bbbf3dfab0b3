-- sums of natural numbers, from left to right
use Rattle.ta_counter.proofs.Common.{◌≡◌, ℕ, zero, suc, ◌+◌, ◌<◌, ◌≤◌, ◌^◌, ℤ, pos, ◌+ℤ◌, ◌≤ℤ◌, List, [], ◌∷◌, length, drop, arith, ap, refl, subst, get_or}
use Rattle.ta_counter.proofs.Common.{ints, drop_more, drop_all, AllByRecursion, abs_below, InRange, total, Value, sum_of}

-- a natural number that isn't above a number in range is in range
pub range_below : (x y : ℤ) → pos 0 ≤ℤ x → x ≤ℤ y → InRange y → InRange x
range_below x y h le b = abs_below (2 ^ 127) x y h le b

pub sum_natural : (xs : List ℤ) → AllByRecursion Value xs → pos 0 ≤ℤ sum_of xs
unfolding total
sum_natural [] h = omega (arith, ints)
sum_natural (x ∷ xs) h = omega (arith, ints, (h.0).natural, sum_natural xs h.1)

-- each of the numbers is at most their sum
pub item_below : (xs : List ℤ) → AllByRecursion Value xs → (i : ℕ) → get_or xs i (pos 0) ≤ℤ sum_of xs
unfolding total
item_below [] h i = omega (arith, ints)
item_below (x ∷ xs) h zero = omega (arith, ints, sum_natural xs h.1)
item_below (x ∷ xs) h (suc i) = omega (arith, ints, (h.0).natural, item_below xs h.1 i)

-- a part of the sum, with what is left of the numbers
pub record Adding (counts : List ℤ) (part : ℤ) (left : List ℤ) : Type 0 where
  pub natural : pos 0 ≤ℤ part
  pub fits : InRange part
  pub values : AllByRecursion Value left
  pub whole : (part +ℤ sum_of left) ≡ sum_of counts

front_sum : (x : ℤ) (xs : List ℤ) → sum_of (x ∷ xs) ≡ (x +ℤ sum_of xs)
unfolding total
front_sum x xs = refl

pub add_next : (counts : List ℤ) (i : ℕ) (part next : ℤ) → Adding counts part (drop i counts) → i < length counts → InRange (part +ℤ get_or counts i (pos 0))
    → next ≡ (part +ℤ get_or counts i (pos 0)) → Adding counts next (drop (i + 1) counts)
add_next counts i part next h b fits is =
    let split = drop_more counts i (pos 0) b in
    let values : AllByRecursion Value (get_or counts i (pos 0) ∷ drop (i + 1) counts) = subst (AllByRecursion Value) split h.values in
    record {
      natural = omega (arith, ints, (values.0).natural, h.natural);
      fits = rw is fits;
      values = values.1;
      whole = omega (arith, ints, h.whole, ap sum_of split, front_sum (get_or counts i (pos 0)) (drop (i + 1) counts));
    }

pub add_leaves : (counts : List ℤ) (i : ℕ) (part : ℤ) → Adding counts part (drop i counts) → i < length counts → ¬ InRange (part +ℤ get_or counts i (pos 0))
    → ¬ InRange (sum_of counts)
add_leaves counts i part h b leaves fits =
    let split = drop_more counts i (pos 0) b in
    let values : AllByRecursion Value (get_or counts i (pos 0) ∷ drop (i + 1) counts) = subst (AllByRecursion Value) split h.values in
    let whole : ((part +ℤ get_or counts i (pos 0)) +ℤ sum_of (drop (i + 1) counts)) ≡ sum_of counts = omega
    (arith, ints, h.whole, ap sum_of split, front_sum (get_or counts i (pos 0)) (drop (i + 1) counts)) in
    leaves (range_below (part +ℤ get_or counts i (pos 0)) (sum_of counts) (omega (arith, ints, (values.0).natural, h.natural))
    (omega (arith, ints, sum_natural (drop (i + 1) counts) values.1)) fits)

nothing : sum_of [] ≡ pos 0
unfolding total
nothing = refl

pub add_end : (counts : List ℤ) (i : ℕ) (part : ℤ) → Adding counts part (drop i counts) → length counts ≤ i → InRange (sum_of counts) × (part ≡ sum_of counts)
add_end counts i part h past =
    let none = ap sum_of (drop_all i counts past) in
    let same : part ≡ sum_of counts = omega (arith, ints, h.whole, none, nothing) in
    (subst InRange same h.fits, same)
