-- the first configuration of a solution has the solution's parameters and start counts
use Rattle.ta_encode.proofs.Common.{◌≡◌, ℕ, ◌+◌, ◌<◌, ◌≤◌, ℤ, pos, ◌+ℤ◌, ◌*ℤ◌, List, [], ◌∷◌, ◌++◌, map, take, drop, length, get_or, arith, sym, ap, ◌∙◌, refl}
use Rattle.ta_encode.proofs.Common.{subst, length-append, length-map, length-drop, ints, zero-*ℤ, take-add, natural, at_index, in_numbers, numbers_rise}
use Rattle.ta_encode.proofs.Common.{Automaton, Pattern, Rises, range_with_len, one_if, location_place, one_if-ne, one_if-shift, one_if-same, Meaning, Parameter}
use Rattle.ta_encode.proofs.Common.{Start, start_locations, start_meanings, place_coefficient, sum_of_products, start_values, map-map, alike}
use Rattle.ta_encode.proofs.Common.{length-range_with_len}
use Rattle.ta_encode.proofs.Start.{start_rises}
use Rattle.ta_encode.proofs.Values.{place_value, combine-split}
use Rattle.ta_encode.proofs.Begin.{combine-on_zero, combine-on_same, first_of}

none_above : (low high x : ℕ) (xs vs : List ℕ) → Rises low high xs → x < low → sum_of_products (map (λ j. one_if j x) xs) vs ≡ pos 0
unfolding sum_of_products
none_above low high x [] vs r b = refl
none_above low high x (y ∷ ys) [] r b = refl
none_above low high x (y ∷ ys) (v ∷ vs) r b =
    omega (
      arith,
      ints,
      ap (λ z. z *ℤ pos v) (one_if-ne y x (λ e. let q = r.0 in omega arith)),
      zero-*ℤ (pos v),
      none_above (y + 1) high x ys vs r.2
          (let q = r.0 in omega arith),
    )

-- a sum in which each number picks its own value
picks : (low high : ℕ) (xs vs : List ℕ) → Rises low high xs → length xs ≤ length vs
    → map (λ x. natural (sum_of_products (map (λ j. one_if j x) xs) vs)) xs ≡ take (length xs) vs
unfolding sum_of_products
picks low high [] vs r b = refl
picks low high (y ∷ ys) [] r b = absurd (omega arith)
picks low high (y ∷ ys) (v ∷ vs) r b =
    let value : ((one_if y y *ℤ pos v) +ℤ sum_of_products (map (λ j. one_if j y) ys) vs) ≡ pos v = omega
    (arith, ints, one_if-same y (pos v), none_above (y + 1) high y ys vs r.2 (omega arith)) in
    let first = ap natural value in
    let rest = alike (λ x. natural (sum_of_products (map (λ j. one_if j x) (y ∷ ys)) (v ∷ vs))) (λ x. natural (sum_of_products (map (λ j. one_if j x) ys) vs))
    (y + 1) high ys r.2 (λ x low _.
    let same : ((one_if y x *ℤ pos v) +ℤ sum_of_products (map (λ j. one_if j x) ys) vs) ≡ sum_of_products (map (λ j. one_if j x) ys) vs = omega
    (arith, ints, ap (λ z. z *ℤ pos v) (one_if-ne y x (λ e. omega arith)), zero-*ℤ (pos v)) in
    ap natural same) in
    let more = rest ∙ picks (y + 1) high ys vs r.2 (omega arith) in
    cc

through : {X : Type 0} (g : X → ℤ) (k : ℕ → X) (xs vs : List ℕ) → sum_of_products (map g (map k xs)) vs ≡ sum_of_products (map (λ x. g (k x)) xs) vs
through g k xs vs = ap (λ (cs : List ℤ). sum_of_products cs vs) (map-map g k xs)

-- a place's value at the start: the parameters' part, and the start counts'
parts : (a : Automaton) (p : Pattern) (vs : List ℕ) (i : ℕ)
    → place_value a (start_meanings a p) vs i ≡
    (sum_of_products (map (λ j. one_if j i) (range_with_len 0 (length a.parameters))) vs +ℤ sum_of_products
    (map (λ l. one_if (location_place a l) i) (start_locations a p)) (drop (length a.parameters) vs))
unfolding start_meanings
parts a p vs i =
    let nums = range_with_len 0 (length a.parameters) in
    let locs = start_locations a p in
    let g : Meaning → ℤ = λ m. place_coefficient a m i in
    let split = combine-split g (map Parameter nums) (map Start locs) vs in
    let many : length (map Parameter nums) ≡ length a.parameters = length-map nums Parameter ∙ length-range_with_len 0 (length a.parameters) in
    let cut = ap (λ n. sum_of_products (map g (map Start locs)) (drop n vs)) many in
    omega (arith, ints, split, cut, through g Parameter nums vs, through g Start locs (drop (length a.parameters) vs))

pub parameter_picks : (a : Automaton) (p : Pattern) (vs : List ℕ) → length a.parameters ≤ length vs
    → (first_of a p vs).parameters ≡ take (length a.parameters) vs
parameter_picks a p vs b =
    let n = length a.parameters in
    let nums = range_with_len 0 n in
    let locs = start_locations a p in
    let e : 0 + n ≡ n = omega arith in
    let rises : Rises 0 n nums = subst (λ (h : ℕ). Rises 0 h nums) e (numbers_rise 0 n) in
    let same = alike (λ i. natural (place_value a (start_meanings a p) vs i)) (λ i. natural (sum_of_products (map (λ j. one_if j i) nums) vs)) 0 n nums rises
    (λ i _ c.
    let none = combine-on_zero (λ l. one_if (location_place a l) i) locs (drop n vs) (λ l _. one_if-ne (location_place a l) i (λ e. omega arith)) in
    let here : place_value a (start_meanings a p) vs i ≡ sum_of_products (map (λ j. one_if j i) nums) vs = omega (arith, ints, parts a p vs i, none) in
    ap natural here) in
    same ∙ picks 0 n nums vs rises (omega (arith, length-range_with_len 0 n)) ∙ ap (λ (k : ℕ). take k vs) (length-range_with_len 0 n)

count_picks : (a : Automaton) (p : Pattern) (vs : List ℕ) → length a.parameters + length (start_locations a p) ≤ length vs
    → map (λ l. get_or (first_of a p vs).counters l 0) (start_locations a p) ≡ take (length (start_locations a p)) (drop (length a.parameters) vs)
count_picks a p vs b =
    let n = length a.parameters in
    let nums = range_with_len 0 n in
    let locs = start_locations a p in
    let rest = drop n vs in
    let rises = start_rises a p in
    let same = alike (λ l. get_or (first_of a p vs).counters l 0) (λ l. natural (sum_of_products (map (λ k. one_if k l) locs) rest)) 0 (length a.locations) locs
    rises (λ l _ c.
    let none = combine-on_zero (λ j. one_if j (location_place a l)) nums vs
    (λ j h. one_if-ne j (location_place a l) (λ e. let q = (in_numbers j 0 n h).1 in omega arith)) in
    let shifted = combine-on_same (λ k. one_if (location_place a k) (location_place a l)) (λ k. one_if k l) locs rest
    (λ k _. one_if-shift (length a.parameters + length a.shared) k l) in
    let here : place_value a (start_meanings a p) vs (location_place a l) ≡ sum_of_products (map (λ k. one_if k l) locs) rest = omega
    (arith, ints, parts a p vs (location_place a l), none, shifted) in
    at_index (λ k. natural (place_value a (start_meanings a p) vs (location_place a k))) (length a.locations) l c ∙ ap natural here) in
    same ∙ picks 0 (length a.locations) locs rest rises (omega (arith, length-drop n vs))

pub first_starts : (a : Automaton) (p : Pattern) (vs : List ℕ) → length (start_meanings a p) ≤ length vs
    → start_values a p (first_of a p vs) ≡ take (length (start_meanings a p)) vs
unfolding start_meanings
first_starts a p vs b =
    let n = length a.parameters in
    let nums = range_with_len 0 n in
    let locs = start_locations a p in
    let many : length (map Parameter nums ++ map Start locs) ≡ n + length locs = omega
    (arith, length-append (map Parameter nums) (map Start locs), length-map nums Parameter, length-map locs Start, length-range_with_len 0 n) in
    let left = parameter_picks a p vs (omega arith) in
    let right = count_picks a p vs (omega arith) in
    ap (λ (xs : List ℕ). xs ++ map (λ l. get_or (first_of a p vs).counters l 0) locs) left
    ∙ ap (λ (ys : List ℕ). take n vs ++ ys) right
    ∙ sym (take-add n (length locs) vs)
    ∙ ap (λ (k : ℕ). take k vs) (sym many)
