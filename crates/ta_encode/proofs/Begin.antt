-- the first configuration of a solution is initial, and its values are those of the empty word
use Rattle.ta_encode.proofs.Common.{◌≡◌, ◌≢◌, ◌⊎◌, inl, inr, ℕ, ◌+◌, ◌<◌, ℤ, pos, ◌*ℤ◌, ◌≤ℤ◌, List, [], ◌∷◌, ◌++◌, map, length, not, arith, sym, ap, ◌∙◌, refl}
use Rattle.ta_encode.proofs.Common.{subst, get_or, sum, length-map, ints, false≢true, cases_lt, not-true, zero-*ℤ, by_one, mul-ge-zero, natural, pos_natural}
use Rattle.ta_encode.proofs.Common.{contains_of, in_append, in_map, at_index, in_numbers, past_numbers, rises_below, terms_value, Automaton, Pattern, Config}
use Rattle.ta_encode.proofs.Common.{value_at, Initial, has_bit, range_with_len, In, Element, has_event, has_rise, Meaning, Parameter, Start, start_locations}
use Rattle.ta_encode.proofs.Common.{start_meanings, meanings, place_coefficient, one_if, location_place, opposite, processes_row, start_coefficient}
use Rattle.ta_encode.proofs.Common.{condition_rows, start_guard_rows, start_rows, word_rows, sum_of_products, AllHold, total, total-zero, total-same}
use Rattle.ta_encode.proofs.Common.{one_inside, terms_value-same, place_cases, value_at-parameter, value_at-shared, value_at-location, one_if-ne, one_if-shift}
use Rattle.ta_encode.proofs.Common.{one_if-natural, Whole, fits_whole, resilience_at, processes_value as processes_at, in_filter, length-range_with_len}
use Rattle.ta_encode.proofs.Common.{total-items, total-naturals}
use Rattle.ta_base.proofs.Totals.{one_if-turned}
use Rattle.ta_encode.proofs.Combine.{combine-zero, combine-add, combine-minus, combine-terms}
use Rattle.ta_encode.proofs.Moments.{opposite_value, AllHold-left}
use Rattle.ta_encode.proofs.Start.{start_rises}
use Rattle.ta_encode.proofs.Switch.{KeptEmpty}
use Rattle.ta_encode.proofs.Appending.{trail_begun}
use Rattle.ta_encode.proofs.Values.{place_value, AllHold-right, condition_back}
use Rattle.ta_encode.proofs.Safety.{prefix_rows, take_apart}
use Rattle.ta_encode.proofs.Unwind.{At}

pub combine-on_zero : {X : Type 0} (g : X → ℤ) (ms : List X) (vs : List ℕ) → ((m : X) → In m ms → g m ≡ pos 0) → sum_of_products (map g ms) vs ≡ pos 0
unfolding sum_of_products
combine-on_zero g [] vs h = refl
combine-on_zero g (m ∷ ms) [] h = refl
combine-on_zero g (m ∷ ms) (v ∷ vs) h = omega
    (arith, ints, ap (λ z. z *ℤ pos v) (h m (inl refl)), zero-*ℤ (pos v), combine-on_zero g ms vs (λ x i. h x (inr i)))

combine-on_natural : {X : Type 0} (g : X → ℤ) (ms : List X) (vs : List ℕ) → ((m : X) → In m ms → pos 0 ≤ℤ g m) → pos 0 ≤ℤ sum_of_products (map g ms) vs
unfolding sum_of_products
combine-on_natural g [] vs h = omega (arith, ints)
combine-on_natural g (m ∷ ms) [] h = omega (arith, ints)
combine-on_natural g (m ∷ ms) (v ∷ vs) h = omega (
  arith,
  ints,
  mul-ge-zero (g m) (pos v) (h m (inl refl)) (let z : pos 0 ≤ℤ pos v = omega (arith, ints) in z),
  combine-on_natural g ms vs
      (λ x i. h x (inr i)),
)

pub combine-on_same : {X : Type 0} (f g : X → ℤ) (ms : List X) (vs : List ℕ) → ((m : X) → In m ms → f m ≡ g m)
    → sum_of_products (map f ms) vs ≡ sum_of_products (map g ms) vs
unfolding sum_of_products
combine-on_same f g [] vs h = refl
combine-on_same f g (m ∷ ms) [] h = refl
combine-on_same f g (m ∷ ms) (v ∷ vs) h = omega (arith, ints, ap (λ z. z *ℤ pos v) (h m (inl refl)), combine-on_same f g ms vs (λ x i. h x (inr i)))

total-combine : {X : Type 0} (f : X → ℕ → ℤ) (ls : List ℕ) (ms : List X) (vs : List ℕ)
    → total (λ l. sum_of_products (map (λ m. f m l) ms) vs) ls ≡ sum_of_products (map (λ m. total (λ l. f m l) ls) ms) vs
unfolding total
total-combine f [] ms vs = sym (combine-zero ms vs)
total-combine f (l ∷ ls) ms vs = omega (arith, ints, total-combine f ls ms vs, combine-add (λ m. f m l) (λ m. total (λ k. f m k) ls) ms vs)

-- an unknown at the start
in_start : (a : Automaton) (p : Pattern) (m : Meaning) → In m (start_meanings a p) → ((i : ℕ) × (i < length a.parameters) × (m ≡ Parameter i))
    ⊎ ((l : ℕ) × In l (start_locations a p) × (m ≡ Start l))
unfolding start_meanings
in_start a p m h = elim (in_append m (map Parameter (range_with_len 0 (length a.parameters))) (map Start (start_locations a p)) h) [
  | inl i ↦ (let w = in_map Parameter m (range_with_len 0 (length a.parameters)) i in inl
      (w.0, (let high = (in_numbers w.0 0 (length a.parameters) w.1).1 in omega arith), w.2))
  | inr i ↦ (let w = in_map Start m (start_locations a p) i in inr (w.0, w.1, w.2))
]

zero_place : (a : Automaton) (p : Pattern) (vs : List ℕ) (i : ℕ) → ((j : ℕ) → j < length a.parameters → j ≢ i)
    → ((l : ℕ) → In l (start_locations a p) → location_place a l ≢ i) → place_value a (start_meanings a p) vs i ≡ pos 0
zero_place a p vs i f g = combine-on_zero (λ m. place_coefficient a m i) (start_meanings a p) vs (λ m h. elim (in_start a p m h) [
  | inl w ↦ ap (λ k. place_coefficient a k i) w.2 ∙ one_if-ne w.0 i (f w.0 w.1)
  | inr w ↦ ap (λ k. place_coefficient a k i) w.2 ∙ one_if-ne (location_place a w.0) i (g w.0 w.1)
])

natural_place : (a : Automaton) (p : Pattern) (vs : List ℕ) (i : ℕ) → pos 0 ≤ℤ place_value a (start_meanings a p) vs i
natural_place a p vs i = combine-on_natural (λ m. place_coefficient a m i) (start_meanings a p) vs (λ m h. elim (in_start a p m h) [
  | inl w ↦ subst (λ (k : Meaning). pos 0 ≤ℤ place_coefficient a k i) (sym w.2) (one_if-natural w.0 i)
  | inr w ↦ subst (λ (k : Meaning). pos 0 ≤ℤ place_coefficient a k i) (sym w.2) (one_if-natural (location_place a w.0) i)
])

-- the first configuration of a solution
abbrev pub first_of : Automaton → Pattern → List ℕ → Config
first_of a p vs = record {
  parameters = map (λ i. natural (place_value a (start_meanings a p) vs i)) (range_with_len 0 (length a.parameters));
  shared = map (λ x. 0) (range_with_len 0 (length a.shared));
  counters = map (λ l. natural (place_value a (start_meanings a p) vs (location_place a l))) (range_with_len 0 (length a.locations));
}

first_whole : (a : Automaton) (p : Pattern) (vs : List ℕ) → Whole a (first_of a p vs)
first_whole a p vs = record {
  parameters = length-map (range_with_len 0 (length a.parameters)) _ ∙ length-range_with_len 0 (length a.parameters);
  shared = length-map (range_with_len 0 (length a.shared)) _ ∙ length-range_with_len 0 (length a.shared);
  counters = length-map (range_with_len 0 (length a.locations)) _ ∙ length-range_with_len 0 (length a.locations);
}

pub start_below : (a : Automaton) (p : Pattern) (l : ℕ) → In l (start_locations a p) → l < length a.locations
start_below a p l h = rises_below 0 (length a.locations) (start_locations a p) l (start_rises a p) h

shared_none : (a : Automaton) (p : Pattern) (vs : List ℕ) (x : ℕ) → get_or (first_of a p vs).shared x 0 ≡ 0
shared_none a p vs x = elim (cases_lt x (length a.shared))
    [ inl b ↦ at_index (λ k. 0) (length a.shared) x b | inr b ↦ past_numbers (λ k. 0) (length a.shared) x b ]

pub first_values : (a : Automaton) (p : Pattern) (vs : List ℕ) (i : ℕ) → value_at (first_of a p vs) i ≡ place_value a (start_meanings a p) vs i
first_values a p vs i =
    let c = first_of a p vs in
    let fits = fits_whole a c (first_whole a p vs) in
    let v : ℕ → ℤ = place_value a (start_meanings a p) vs in
    elim (place_cases a i) [
      | inl h ↦ value_at-parameter a c i fits h ∙ ap pos (at_index (λ k. natural (v k)) (length a.parameters) i h) ∙ pos_natural (v i) (natural_place a p vs i)
      | inr (inl w) ↦ (
          let b = w.1 in
          let q = w.2 in
          let none = zero_place a p vs i (λ j c e. omega arith) (λ l c e. omega arith) in
          ap (value_at c) w.2 ∙ value_at-shared a c w.0 fits w.1 ∙ ap pos (shared_none a p vs w.0) ∙ sym none)
      | inr (inr w) ↦ ap (value_at c) w.1 ∙ value_at-location a c w.0 fits ∙ elim (cases_lt w.0 (length a.locations)) [
        | inl b ↦ ap pos (at_index (λ k. natural (v (location_place a k))) (length a.locations) w.0 b)
            ∙ pos_natural (v (location_place a w.0)) (natural_place a p vs (location_place a w.0)) ∙ ap v (sym w.1)
        | inr b ↦ (
            let q = w.1 in
            let none = zero_place a p vs i (λ j c e. omega arith) (λ l c e. absurd (omega (arith, start_below a p l c))) in
            ap pos (past_numbers (λ k. natural (v (location_place a k))) (length a.locations) w.0 b) ∙ sym none)
      ]
    ]

counter_none : (a : Automaton) (p : Pattern) (vs : List ℕ) (l : ℕ) → (In l (start_locations a p) → ⊥) → get_or (first_of a p vs).counters l 0 ≡ 0
counter_none a p vs l h =
    let c = first_of a p vs in
    let fits = fits_whole a c (first_whole a p vs) in
    let none = zero_place a p vs (location_place a l) (λ j b e. omega arith)
    (λ k i e. let same : k ≡ l = omega arith in h (subst (λ (x : ℕ). In x (start_locations a p)) same i)) in
    omega (arith, ints, value_at-location a c l fits, first_values a p vs (location_place a l), none)

counters_sum : (a : Automaton) (p : Pattern) (vs : List ℕ)
    → pos (sum (first_of a p vs).counters) ≡ sum_of_products (map start_coefficient (start_meanings a p)) vs
counters_sum a p vs =
    let c = first_of a p vs in
    let fits = fits_whole a c (first_whole a p vs) in
    let sm = start_meanings a p in
    let nums = range_with_len 0 (length a.locations) in
    let all = subst (λ (k : ℕ). total (λ l. pos (get_or c.counters l 0)) (range_with_len 0 k) ≡ pos (sum c.counters)) (first_whole a p vs).counters
    (total-items pos 0 c.counters ∙ total-naturals c.counters) in
    let each = total-same (λ l. pos (get_or c.counters l 0)) (λ l. sum_of_products (map (λ m. place_coefficient a m (location_place a l)) sm) vs) nums
    (λ l. sym (value_at-location a c l fits) ∙ first_values a p vs (location_place a l)) in
    let swap = total-combine (λ m l. place_coefficient a m (location_place a l)) nums sm vs in
    let n = length a.parameters + length a.shared in
    let same = combine-on_same (λ m. total (λ l. place_coefficient a m (location_place a l)) nums) start_coefficient sm vs (λ m h. elim (in_start a p m h) [
      | inl w ↦ (let b = w.1 in subst (λ (k : Meaning). total (λ l. place_coefficient a k (location_place a l)) nums ≡ start_coefficient k) (sym w.2)
          (total-zero (λ l. one_if w.0 (location_place a l)) nums (λ l. one_if-ne w.0 (location_place a l) (omega arith))))
      | inr w ↦ subst (λ (k : Meaning). total (λ l. place_coefficient a k (location_place a l)) nums ≡ start_coefficient k) (sym w.2)
          (total-same (λ l. one_if (location_place a w.0) (location_place a l)) (λ l. one_if l w.0 *ℤ pos 1) nums
          (λ l. one_if-shift n w.0 l ∙ one_if-turned w.0 l ∙ sym (by_one (one_if l w.0)))
          ∙ one_inside (λ _. pos 1) 0 (length a.locations) w.0 (omega arith) (omega (arith, start_below a p w.0 w.1)))
    ]) in
    omega (arith, ints, all, each, swap, same)

-- what the rows at the start say
pub record FirstRows (a : Automaton) (p : Pattern) (vs : List ℕ) : Type 0 where
  pub resilience : AllHold vs (condition_rows a (start_meanings a p) a.resilience.comparisons)
  pub processes : AllHold vs (processes_row a (start_meanings a p) ∷ opposite (processes_row a (start_meanings a p)) ∷ [])
  pub start : AllHold vs (condition_rows a (start_meanings a p) p.start.comparisons)

pub first_rows_of : (a : Automaton) (p : Pattern) (start : ℕ) (vs : List ℕ) → AllHold vs (start_rows a p start) → FirstRows a p vs
unfolding start_rows
first_rows_of a p start vs h =
    let ms = start_meanings a p in
    let one = condition_rows a ms a.resilience.comparisons in
    let two = processes_row a ms ∷ opposite (processes_row a ms) ∷ [] in
    let three = condition_rows a ms p.start.comparisons in
    let four = start_guard_rows a ms start 0 a.fall in
    let rest = AllHold-right vs one (two ++ (three ++ four)) h in
    record {
      resilience = AllHold-left vs one (two ++ (three ++ four)) h;
      processes = AllHold-left vs two (three ++ four) rest;
      start = AllHold-left vs three
          four (AllHold-right vs two (three ++ four) rest);
    }

pub first_initial : (a : Automaton) (p : Pattern) (vs : List ℕ) → FirstRows a p vs → Initial a (first_of a p vs)
first_initial a p vs h =
    let c = first_of a p vs in
    let ms = start_meanings a p in
    let minus = combine-minus (λ k. terms_value (place_coefficient a k) a.processes.terms) start_coefficient ms vs in
    let terms = combine-terms (place_coefficient a) ms vs a.processes.terms in
    let same = terms_value-same a.processes.terms (value_at c) (place_value a ms vs) (first_values a p vs) in
    record {
      admissible = record {
        count = (first_whole a p vs).parameters;
        resilience = resilience_at a c (first_whole a p vs).parameters
            (condition_back a ms vs c (first_values a p vs) a.resilience.comparisons h.resilience);
      };
      shared_count = (first_whole a p vs).shared;
      locations_count = (first_whole a p vs).counters;
      others_empty = λ l out. counter_none a p vs l (λ i. out (contains_of a.initial l ((in_filter (λ k. not (has_bit p.empty k)) l a.initial i).1)));
      processes = omega (
        arith,
        ints,
        processes_at a c (first_whole a p vs).parameters,
        minus,
        terms,
        same,
        counters_sum a p vs,
        h.processes.0,
        h.processes.1.0,
        opposite_value vs (processes_row a ms),
      );
      shared_zero = shared_none a p vs;
    }

pub begin_at : (a : Automaton) (p : Pattern) (start : ℕ) (vs : List ℕ) → At a p start [] vs (meanings a p start []) (first_of a p vs) [] (λ e. 0)
unfolding meanings has_event has_rise
begin_at a p start vs =
    let begun = trail_begun a (KeptEmpty p) (first_of a p vs)
    (λ l t. counter_none a p vs l (λ i. false≢true (sym (not-true _ ((in_filter (λ k. not (has_bit p.empty k)) l a.initial i).0)) ∙ t))) in
    record {
      config = first_of a p vs;
      trail = begun.trail;
      is = begun.is;
      whole = first_whole a p vs;
      values = first_values a p vs;
      rises = λ i row at h. absurd (false≢true h);
      happened = λ e event h at. absurd (false≢true h);
      bounded = λ e h. absurd (false≢true h);
      ordered = λ e f event h at set b. absurd (false≢true h);
    }

-- all rows of a word begin with those at the start
pub begin_rows : (a : Automaton) (p : Pattern) (start : ℕ) (past : List Element) (vs : List ℕ) → AllHold vs (word_rows a p start past)
    → AllHold vs (start_rows a p start)
unfolding word_rows
begin_rows a p start past vs h = prefix_rows a p start [] (take_apart past []).0 vs
    (subst (λ (q : List Element). AllHold vs (word_rows a p start q)) (sym (take_apart past []).1) h)
