-- the empty word at the start of a run
use Rattle.ta_encode.proofs.Common.{◌≡◌, inl, inr, ℕ, ◌+◌, ℤ, pos, ◌-ℤ◌, ◌*ℤ◌, List, [], ◌∷◌, ◌++◌, map, length, Bool, true, false, not, arith, sym, ap, ◌∙◌}
use Rattle.ta_encode.proofs.Common.{slice_get, get_or, Some, None, Option, length-append, zero-add, sum, ints, cases_Bool, not_from_false, slice_get_within}
use Rattle.ta_encode.proofs.Common.{zero-*ℤ, mask_of-bit, is_negative, negative_false, negative_true, one_times, maps_length, In-filter, in_of, mask_of}
use Rattle.ta_encode.proofs.Common.{rises_filter, terms_value, value_of, RowHolds, Row, Automaton, Pattern, Config, value_at, Holds, Initial, Rises, has_bit}
use Rattle.ta_encode.proofs.Common.{range_with_len, In, has_fallen, Meaning, Parameter, Start, start_locations, start_meanings, meanings, place_coefficient}
use Rattle.ta_encode.proofs.Common.{one_if, location_place, opposite, processes_row, start_coefficient, condition_rows, start_guard_rows, start_rows, word_rows}
use Rattle.ta_encode.proofs.Common.{sum_of_products, row_value, AllHold, total, total-zero, total-same, one_inside, one_outside, terms_value-same, Fits}
use Rattle.ta_encode.proofs.Common.{place_cases, value_at-parameter, value_at-shared, value_at-location, one_if-ne, one_if-shift, resilience_holds}
use Rattle.ta_encode.proofs.Common.{processes_value as processes_at, total-items, total-naturals}
use Rattle.ta_base.proofs.Totals.{one_among, total-rising}
use Rattle.ta_encode.proofs.Combine.{combine-append, combine-extra, combine-map, combine-minus, combine-terms}
use Rattle.ta_encode.proofs.Moments.{Moment, RowFails, AllHold-append, condition_holds, start_guards, opposite_value}
use Rattle.ta_encode.proofs.State.{State}

-- whether a guard fails in a configuration
abbrev pub row_fails : Config → Option Row → Bool
row_fails c None = false
row_fails c (Some row) = is_negative (value_of (value_at c) row.form)

-- the locations that are kept empty have no process at the start
abbrev pub StartsEmpty : Pattern → Config → Type 0
StartsEmpty p c = (l : ℕ) → has_bit p.empty l ≡ true → get_or c.counters l 0 ≡ 0

pub start_rises : (a : Automaton) (p : Pattern) → Rises 0 (length a.locations) (start_locations a p)
start_rises a p = rises_filter (λ l. not (has_bit p.empty l)) 0 (length a.locations) a.initial a.shape.initial_rises

out_of_start : (a : Automaton) (p : Pattern) (c : Config) → Initial a c → StartsEmpty p c → (l : ℕ) → (In l (start_locations a p) → ⊥)
    → pos (get_or c.counters l 0) ≡ pos 0
out_of_start a p c start empty l out = elim (cases_Bool (has_bit p.empty l)) [
  | inl t ↦ ap pos (empty l t)
  | inr f ↦ ap pos (start.others_empty l (λ w. out (In-filter (λ k. not (has_bit p.empty k)) l a.initial (not_from_false _ f) (in_of a.initial l w))))
]

-- the start counts add up to all counters
starts_total : (a : Automaton) (p : Pattern) (c : Config) → Initial a c → StartsEmpty p c
    → total (λ l. pos (get_or c.counters l 0)) (start_locations a p) ≡ pos (sum c.counters)
starts_total a p c start empty =
    let f : ℕ → ℤ = λ l. pos (get_or c.counters l 0) in
    let n = length a.locations in
    let all = ap (λ (k : ℕ). total f (range_with_len 0 k)) (sym start.locations_count) ∙ total-items pos 0 c.counters ∙ total-naturals c.counters in
    total-rising f n (start_locations a p) (start_rises a p) (out_of_start a p c start empty) ∙ all

abbrev pub parameter_values : Automaton → Config → List ℕ
parameter_values a c = map (λ j. get_or c.parameters j 0) (range_with_len 0 (length a.parameters))

abbrev pub start_counts : Automaton → Pattern → Config → List ℕ
start_counts a p c = map (λ l. get_or c.counters l 0) (start_locations a p)

pub start_moment : (a : Automaton) (p : Pattern) (c : Config) → Fits a c → Initial a c → StartsEmpty p c
    → Moment a (start_meanings a p) (parameter_values a c ++ start_counts a p c) c
unfolding start_meanings
start_moment a p c fits start empty =
    let nums = range_with_len 0 (length a.parameters) in
    let locs = start_locations a p in
    let first : length (parameter_values a c) ≡ length (map Parameter nums) = maps_length (λ j. get_or c.parameters j 0) Parameter nums in
    let second : length (start_counts a p c) ≡ length (map Start locs) = maps_length (λ l. get_or c.counters l 0) Start locs in
    record {
      count = omega (arith, first, second, length-append (parameter_values a c) (start_counts a p c), length-append (map Parameter nums) (map Start locs));
      places = λ i.
          let g : Meaning → ℤ = λ m. place_coefficient a m i in
          let both = combine-append g (map Parameter nums) (map Start locs) (parameter_values a c) (start_counts a p c) first in
          let ps = combine-map g Parameter (λ j. get_or c.parameters j 0) nums in
          let ls = combine-map g Start (λ l. get_or c.counters l 0) locs in
          elim (place_cases a i) [
            | inl h ↦ (
                let mine = one_inside (λ j. pos (get_or c.parameters j 0)) 0 (length a.parameters) i (omega arith) (omega arith) in
                let starts = total-zero (λ l. one_if (location_place a l) i *ℤ pos (get_or c.counters l 0)) locs
                (λ l. ap (λ z. z *ℤ pos (get_or c.counters l 0)) (one_if-ne (location_place a l) i (omega arith)) ∙ zero-*ℤ (pos (get_or c.counters l 0)))
                in
                omega (arith, ints, both, ps, ls, mine, starts, value_at-parameter a c i fits h))
            | inr (inl w) ↦ (
                let mine = one_outside (λ j. pos (get_or c.parameters j 0)) 0 (length a.parameters) i (inr (let q = w.2 in omega arith)) in
                let starts = total-zero (λ l. one_if (location_place a l) i *ℤ pos (get_or c.counters l 0)) locs
                (λ l. ap (λ z. z *ℤ pos (get_or c.counters l 0)) (one_if-ne (location_place a l) i (let q = w.2 in let b = w.1 in omega arith))
                ∙ zero-*ℤ (pos (get_or c.counters l 0))) in
                let here = ap (value_at c) w.2 ∙ value_at-shared a c w.0 fits w.1 ∙ ap pos (start.shared_zero w.0) in
                omega (arith, ints, both, ps, ls, mine, starts, here))
            | inr (inr w) ↦ (
                let n = length a.parameters + length a.shared in
                let mine = one_outside (λ j. pos (get_or c.parameters j 0)) 0 (length a.parameters) i (inr (let q = w.1 in omega arith)) in
                let moved = total-same (λ l. one_if (location_place a l) i *ℤ pos (get_or c.counters l 0)) (λ l. one_if l w.0 *ℤ pos (get_or c.counters l 0))
                locs (λ l. rw w.1 (ap (λ z. z *ℤ pos (get_or c.counters l 0)) (one_if-shift n l w.0))) in
                let starts = one_among (λ l. pos (get_or c.counters l 0)) 0 (length a.locations) locs w.0 (start_rises a p) (out_of_start a p c start empty w.0)
                in
                let here = ap (value_at c) w.1 ∙ value_at-location a c w.0 fits in
                omega (arith, ints, both, ps, ls, mine, moved, starts, here))
          ];
    }

pub processes_value : (a : Automaton) (p : Pattern) (c : Config) → Fits a c → Initial a c → StartsEmpty p c → (more : List ℕ)
    → row_value ((parameter_values a c ++ start_counts a p c) ++ more) (processes_row a (start_meanings a p)) ≡ pos 0
unfolding start_meanings
processes_value a p c fits start empty more =
    let m = start_moment a p c fits start empty in
    let vs = parameter_values a c ++ start_counts a p c in
    let ms = start_meanings a p in
    let nums = range_with_len 0 (length a.parameters) in
    let locs = start_locations a p in
    let ts = a.processes.terms in
    let extra = combine-extra (λ k. terms_value (place_coefficient a k) ts -ℤ start_coefficient k) ms vs more m.count in
    let minus = combine-minus (λ k. terms_value (place_coefficient a k) ts) start_coefficient ms vs in
    let terms = combine-terms (place_coefficient a) ms vs ts in
    let same = terms_value-same ts (λ i. sum_of_products (map (λ k. place_coefficient a k i) ms) vs) (value_at c) m.places in
    let first : length (parameter_values a c) ≡ length (map Parameter nums) = maps_length (λ j. get_or c.parameters j 0) Parameter nums in
    let both = combine-append start_coefficient (map Parameter nums) (map Start locs) (parameter_values a c) (start_counts a p c) first in
    let ps = combine-map start_coefficient Parameter (λ j. get_or c.parameters j 0) nums in
    let ls = combine-map start_coefficient Start (λ l. get_or c.counters l 0) locs in
    let none = total-zero (λ j. pos 0 *ℤ pos (get_or c.parameters j 0)) nums (λ j. zero-*ℤ (pos (get_or c.parameters j 0))) in
    let ones = total-same (λ l. pos 1 *ℤ pos (get_or c.counters l 0)) (λ l. pos (get_or c.counters l 0)) locs (λ l. one_times (pos (get_or c.counters l 0))) in
    omega (
      arith,
      ints,
      extra,
      minus,
      terms,
      same,
      both,
      ps,
      ls,
      none,
      ones,
      starts_total a p c start empty,
      start.processes,
      processes_at a c
          start.admissible.count,
    )

-- the start set of a configuration: the fall guards that fail there
abbrev pub start_set : Automaton → Config → ℕ
start_set a c = mask_of (λ j. row_fails c (slice_get a.fall j)) (length a.fall)

start_bit : (a : Automaton) (c : Config) (j : ℕ) (row : Row) → slice_get a.fall j ≡ Some row
    → has_bit (start_set a c) j ≡ is_negative (value_of (value_at c) row.form)
start_bit a c j row at = mask_of-bit (λ k. row_fails c (slice_get a.fall k)) (length a.fall) j (slice_get_within _ _ _ at) ∙ ap (row_fails c) at

pub start_state : (a : Automaton) (p : Pattern) (pairs : List (ℕ × ℕ)) (c : Config) → Fits a c → Initial a c → StartsEmpty p c → Holds p.start c
    → State a p pairs (start_set a c) [] (parameter_values a c ++ start_counts a p c) [] c
unfolding meanings total word_rows start_rows has_fallen
start_state a p pairs c fits start empty holds =
    let m = start_moment a p c fits start empty in
    let vs = parameter_values a c ++ start_counts a p c in
    let ms = start_meanings a p in
    let fails : (j : ℕ) (row : Row) → slice_get a.fall j ≡ Some row → has_bit (start_set a c) j ≡ true
    → RowFails (value_at c) row = (λ j row at t. negative_true _ (sym (start_bit a c j row at) ∙ t)) in
    let stands : (j : ℕ) (row : Row) → slice_get a.fall j ≡ Some row → has_bit (start_set a c) j ≡ false
    → RowHolds (value_at c) row = (λ j row at t. negative_false _ (sym (start_bit a c j row at) ∙ t)) in
    record {
      legal = tt;
      fits = fits;
      count = m.count;
      places = λ i. omega (arith, ints, m.places i);
      once = tt;
      solved = λ more.
          let value = processes_value a p c fits start empty more in
          let v = vs ++ more in
          let pair : AllHold v (processes_row a ms ∷ opposite (processes_row a ms) ∷ []) =
          (omega (arith, ints, value), (omega (arith, ints, value, opposite_value v (processes_row a ms)), tt)) in
          let guards : AllHold v (start_guard_rows a ms (start_set a c) 0 a.fall) = start_guards a ms vs c m more (start_set a c) 0 a.fall
          (λ j row at. (
            λ t. fails j row at (ap (has_bit (start_set a c)) (sym (zero-add j)) ∙ t),
            λ t. stands j row at
                (ap (has_bit (start_set a c)) (sym (zero-add j)) ∙ t),
          )) in
          let three = AllHold-append v (condition_rows a ms p.start.comparisons) (start_guard_rows a ms (start_set a c) 0 a.fall)
          (condition_holds a ms vs c m more p.start.comparisons holds) guards in
          let two = AllHold-append v (processes_row a ms ∷ opposite (processes_row a ms) ∷ [])
          (condition_rows a ms p.start.comparisons ++ start_guard_rows a ms (start_set a c) 0 a.fall) pair three in
          AllHold-append v (condition_rows a ms a.resilience.comparisons)
          ((processes_row a ms ∷ opposite (processes_row a ms) ∷ [])
          ++ (condition_rows a ms p.start.comparisons ++ start_guard_rows a ms (start_set a c) 0 a.fall))
          (condition_holds a ms vs c m more a.resilience.comparisons (resilience_holds a c start.admissible.count start.admissible.resilience)) two;
      fallen = fails;
      standing = stands;
    }
