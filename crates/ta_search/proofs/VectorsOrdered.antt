-- the vectors of a template are the choices, in lexicographic order
use Rattle.ta_search.proofs.Common.{inl, inr, ℕ, zero, suc, ◌+◌, ◌<◌, ◌≤◌, List, [], ◌∷◌, ◌++◌, map, refl, subst, arith, AllByRecursion, In, range_with_len}
use Rattle.ta_search.proofs.Common.{each_all, each_append, each_weaker, In-numbers, each_number, Hole, HoleInRange, value_count, Ascend, IsBefore, IsChoice}
use Rattle.ta_search.proofs.Common.{VectorsAreChoices, each_before, hole_values, vectors, each_map}
use Rattle.ta_base.proofs.Members.{In-left, In-map, In-right}

-- a value in front of a vector
abbrev put : ℕ → List ℕ → List ℕ
put value vector = value ∷ vector

-- ---- each vector is a choice
choices_each : (h : Hole) (hs : List Hole) (values : List ℕ) (vs : List (List ℕ)) → AllByRecursion (λ x. (h.low ≤ x) × (x ≤ h.high)) values
    → AllByRecursion (IsChoice hs) vs → AllByRecursion (IsChoice (h ∷ hs)) (each_before values vs)
choices_each h hs [] vs range each = tt
choices_each h hs (x ∷ xs) vs range each =
    each_append (IsChoice (h ∷ hs)) (map (put x) vs) (each_before xs vs)
    (each_map (put x) (IsChoice hs) (IsChoice (h ∷ hs)) vs (λ v is. let within = range.0 in (within.0, within.1, is)) each)
    (choices_each h hs xs vs range.1 each)

are_choices : (hs : List Hole) → AllByRecursion HoleInRange hs → AllByRecursion (IsChoice hs) (vectors hs)
are_choices [] ranges = (tt, tt)
are_choices (h ∷ hs) ranges =
    let range = ranges.0 in
    let some = range.some in
    choices_each h hs (hole_values h) (vectors hs)
    (each_weaker (λ x. (h.low ≤ x) × (x < h.low + value_count h)) (λ x. (h.low ≤ x) × (x ≤ h.high)) (hole_values h)
    (λ x k. let low = k.0 in let high = k.1 in (omega arith, omega arith)) (each_number h.low (value_count h)))
    (are_choices hs ranges.1)

-- ---- each choice is among them
in_each : (x : ℕ) (v : List ℕ) (values : List ℕ) (vs : List (List ℕ)) → In x values → In v vs → In (x ∷ v) (each_before values vs)
in_each x v [] vs h k = absurd h
in_each x v (y ∷ ys) vs (inl e) k = In-left (x ∷ v) (map (put y) vs) (each_before ys vs)
    (subst (λ (z : ℕ). In (x ∷ v) (map (put z) vs)) e (In-map (put x) v vs k))
in_each x v (y ∷ ys) vs (inr h) k = In-right (x ∷ v) (map (put y) vs) (each_before ys vs) (in_each x v ys vs h k)

all_choices : (hs : List Hole) (v : List ℕ) → IsChoice hs v → In v (vectors hs)
all_choices [] [] is = inl refl
all_choices [] (x ∷ v) is = absurd is
all_choices (h ∷ hs) [] is = absurd is
all_choices (h ∷ hs) (x ∷ v) is =
    let low = is.0 in
    let high = is.1 in
    in_each x v (hole_values h) (vectors hs) (In-numbers x h.low (value_count h) low (omega arith)) (all_choices hs v is.2)

-- ---- in their order
ascend_put : (x : ℕ) (vs : List (List ℕ)) → Ascend vs → Ascend (map (put x) vs)
ascend_put x [] a = tt
ascend_put x (v ∷ vs) a = (each_map (put x) (IsBefore v) (IsBefore (x ∷ v)) vs (λ w before. inr (refl, before)) a.0, ascend_put x vs a.1)

ascend_append : (us ws : List (List ℕ)) → Ascend us → Ascend ws → AllByRecursion (λ u. AllByRecursion (IsBefore u) ws) us → Ascend (us ++ ws)
ascend_append [] ws a b each = b
ascend_append (u ∷ us) ws a b each = (each_append (IsBefore u) us ws a.0 each.0, ascend_append us ws a.1 b each.1)

-- what begins with a greater value comes later
later : (x : ℕ) (v values : List ℕ) (vs : List (List ℕ)) → AllByRecursion (λ y. x < y) values → AllByRecursion (IsBefore (x ∷ v)) (each_before values vs)
later x v [] vs greater = tt
later x v (y ∷ ys) vs greater =
    each_append (IsBefore (x ∷ v)) (map (put y) vs) (each_before ys vs)
    (each_map (put y) (λ w. Unit {0}) (IsBefore (x ∷ v)) vs (λ w h. inl greater.0) (each_all (λ w. Unit {0}) vs (λ w. tt))) (later x v ys vs greater.1)

ascend_each : (k n : ℕ) (vs : List (List ℕ)) → Ascend vs → Ascend (each_before (range_with_len k n) vs)
ascend_each k zero vs a = tt
ascend_each k (suc n) vs a =
    let rest = range_with_len (k + 1) n in
    let greater = each_weaker (λ x. (k + 1 ≤ x) × (x < (k + 1) + n)) (λ x. k < x) rest (λ x h. let low = h.0 in omega arith) (each_number (k + 1) n) in
    ascend_append (map (put k) vs) (each_before rest vs) (ascend_put k vs a) (ascend_each (k + 1) n vs a)
    (each_map (put k) (λ w. Unit {0}) (λ u. AllByRecursion (IsBefore u) (each_before rest vs)) vs (λ w h. later k w rest vs greater)
    (each_all (λ w. Unit {0}) vs (λ w. tt)))

vectors_ascend : (hs : List Hole) → Ascend (vectors hs)
vectors_ascend [] = (tt, tt)
vectors_ascend (h ∷ hs) = ascend_each h.low (value_count h) (vectors hs) (vectors_ascend hs)

pub vectors_are_choices : VectorsAreChoices
vectors_are_choices t = let holes = t.legal in record { ascend = vectors_ascend t.holes; choices = are_choices t.holes holes.ranges; all = all_choices t.holes }
