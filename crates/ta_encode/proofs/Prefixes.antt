-- the first values of a solution solve the systems of the prefixes
use Rattle.ta_encode.proofs.Common.{◌≡◌, ℕ, zero, suc, ◌+◌, ◌≤◌, ℤ, pos, ◌+ℤ◌, ◌-ℤ◌, ◌*ℤ◌, List, [], ◌∷◌, ◌++◌, map, length, take, drop, reverse, cond, Bool}
use Rattle.ta_encode.proofs.Common.{true, false, not, eqb, arith, ap, refl, subst, length-append, slice_get, Option, Some, None, length-map, length-take-le}
use Rattle.ta_encode.proofs.Common.{ints, terms_value, Row, Comparison, Automaton, Pattern, has_bit, range_with_len, location_place, Element, Event, Rise, Fall}
use Rattle.ta_encode.proofs.Common.{allowed_rules, has_fallen, Meaning, Single, place_coefficient, start_meanings, meanings, counts_after, singles_after}
use Rattle.ta_encode.proofs.Common.{LinearRow, opposite, negated, form_row, counter_row, counter_rows, condition_rows, guard_rows, start_guard_rows}
use Rattle.ta_encode.proofs.Common.{start_coefficient, processes_row, singles_row, event_rows, standing_rows, start_rows, rise_rows, happening_rows, fall_rows}
use Rattle.ta_encode.proofs.Common.{word_rows, sum_of_products, AllHold, SolvesWord, values_of_prefix, filter}
use Rattle.ta_automaton.specs.declared.pattern.Event.{Event as PatternEvent}
use Rattle.ta_encode.proofs.Moments.{AllHold-append, AllHold-left}
use Rattle.ta_encode.proofs.Safety.{extend}
use Rattle.ta_encode.proofs.InOrder.{cut_at, prefix_solved}

-- no row has more coefficients than this
abbrev pub Within : ℕ → List LinearRow → Type 0
Within n [] = Unit {0}
Within n (row ∷ rows) = (length row.coefficients ≤ n) × Within n rows

Within-more : (n m : ℕ) (rows : List LinearRow) → n ≤ m → Within n rows → Within m rows
Within-more n m [] le h = tt
Within-more n m (row ∷ rows) le h = (let b = h.0 in omega arith, Within-more n m rows le h.1)

Within-append : (n : ℕ) (xs ys : List LinearRow) → Within n xs → Within n ys → Within n (xs ++ ys)
Within-append n [] ys h g = g
Within-append n (x ∷ xs) ys h g = (h.0, Within-append n xs ys h.1 g)

Within-cond : (n : ℕ) (b : Bool) (xs ys : List LinearRow) → Within n xs → Within n ys → Within n (cond b xs ys)
Within-cond n true xs ys h g = h
Within-cond n false xs ys h g = g

Within-negated : (n : ℕ) (rows : List LinearRow) → Within n rows → Within n (map negated rows)
Within-negated n [] h = tt
Within-negated n (row ∷ rows) h = (let b = h.0 in omega (arith, length-map row.coefficients (λ c. pos 0 -ℤ c)), Within-negated n rows h.1)

counters_within : (a : Automaton) (ms : List Meaning) (ls : List ℕ) → Within (length ms) (map (counter_row a ms) ls)
counters_within a ms [] = tt
counters_within a ms (l ∷ ls) = (omega (arith, length-map ms (λ m. place_coefficient a m (location_place a l))), counters_within a ms ls)

form_within : (a : Automaton) (ms : List Meaning) (rows : List Row) → Within (length ms) (map (λ (r : Row). form_row a ms r.form) rows)
form_within a ms [] = tt
form_within a ms (r ∷ rs) = (omega (arith, length-map ms (λ m. terms_value (place_coefficient a m) r.form.terms)), form_within a ms rs)

condition_within : (a : Automaton) (ms : List Meaning) (ks : List Comparison) → Within (length ms) (condition_rows a ms ks)
condition_within a ms [] = tt
condition_within a ms (k ∷ ks) = Within-append (length ms) (map (λ (r : Row). form_row a ms r.form) k.rows) (condition_rows a ms ks) (form_within a ms k.rows)
    (condition_within a ms ks)

guards_within : (a : Automaton) (ms : List Meaning) (test : ℕ → Bool) (k : ℕ) (rows : List Row) → Within (length ms) (guard_rows a ms test k rows)
guards_within a ms test k [] = tt
guards_within a ms test k (r ∷ rs) =
    let rest = guards_within a ms test (k + 1) rs in
    Within-cond (length ms) (test k) (form_row a ms r.form ∷ guard_rows a ms test (k + 1) rs) (guard_rows a ms test (k + 1) rs)
    (omega (arith, length-map ms (λ m. terms_value (place_coefficient a m) r.form.terms)), rest) rest

one_within : (n : ℕ) (b : Bool) (x y : LinearRow) → length x.coefficients ≤ n → length y.coefficients ≤ n → length (cond b x y).coefficients ≤ n
one_within n true x y h g = h
one_within n false x y h g = g

start_guards_within : (a : Automaton) (ms : List Meaning) (start k : ℕ) (rows : List Row) → Within (length ms) (start_guard_rows a ms start k rows)
start_guards_within a ms start k [] = tt
start_guards_within a ms start k (r ∷ rs) =
    let f = form_row a ms r.form in
    let same = length-map ms (λ m. terms_value (place_coefficient a m) r.form.terms) in
    let other = length-map f.coefficients (λ c. pos 0 -ℤ c) in
    (one_within (length ms) (has_bit start k) (negated f) f (omega arith) (omega arith), start_guards_within a ms start (k + 1) rs)

event_within : (a : Automaton) (ms : List Meaning) (o : Option PatternEvent) → Within (length ms) (event_rows a ms o)
event_within a ms None = tt
event_within a ms (Some event) = condition_within a ms event.condition.comparisons

start_within : (a : Automaton) (p : Pattern) (start : ℕ) → Within (length (start_meanings a p)) (start_rows a p start)
unfolding start_rows
start_within a p start =
    let ms = start_meanings a p in
    let n = length ms in
    let one = processes_row a ms in
    let two = length-map ms (λ m. terms_value (place_coefficient a m) a.processes.terms -ℤ start_coefficient m) in
    let three = length-map one.coefficients (λ c. pos 0 -ℤ c) in
    let pair : Within n (one ∷ opposite one ∷ []) = (omega arith, (omega arith, tt)) in
    Within-append n (condition_rows a ms a.resilience.comparisons)
    ((one ∷ opposite one ∷ []) ++ (condition_rows a ms p.start.comparisons ++ start_guard_rows a ms start 0 a.fall))
    (condition_within a ms a.resilience.comparisons)
    (Within-append n (one ∷ opposite one ∷ []) (condition_rows a ms p.start.comparisons ++ start_guard_rows a ms start 0 a.fall) pair
    (Within-append n (condition_rows a ms p.start.comparisons) (start_guard_rows a ms start 0 a.fall) (condition_within a ms p.start.comparisons)
    (start_guards_within a ms start 0 a.fall)))

happening_within : (a : Automaton) (p : Pattern) (start : ℕ) (past : List Element) (ms : List Meaning) (e : ℕ)
    → Within (length ms) (happening_rows a p start past ms e)
unfolding happening_rows
happening_within a p start past ms e =
    Within-append (length ms) (counter_rows a p ms) (event_rows a ms (slice_get p.events e) ++ standing_rows a start past ms)
    (counters_within a ms (filter (λ l. not (has_bit p.empty l)) (range_with_len 0 (length a.locations))))
    (Within-append (length ms) (event_rows a ms (slice_get p.events e)) (standing_rows a start past ms) (event_within a ms (slice_get p.events e))
    (guards_within a ms (λ j. not (has_fallen start past j)) 0 a.fall))

rise_within : (a : Automaton) (p : Pattern) (start : ℕ) (past : List Element) (ms : List Meaning) (i : ℕ) → Within (length ms) (rise_rows a p start past ms i)
unfolding rise_rows
rise_within a p start past ms i =
    Within-append (length ms) (counter_rows a p ms) (guard_rows a ms (λ k. eqb k i) 0 a.rise ++ standing_rows a start past ms)
    (counters_within a ms (filter (λ l. not (has_bit p.empty l)) (range_with_len 0 (length a.locations))))
    (Within-append (length ms) (guard_rows a ms (λ k. eqb k i) 0 a.rise) (standing_rows a start past ms) (guards_within a ms (λ k. eqb k i) 0 a.rise)
    (guards_within a ms (λ j. not (has_fallen start past j)) 0 a.fall))

fall_within : (a : Automaton) (p : Pattern) (start : ℕ) (past : List Element) (before : List Meaning) (mask : ℕ)
    → Within (length (before ++ singles_after a p start past)) (fall_rows a p start past before (before ++ singles_after a p start past) mask)
unfolding fall_rows
fall_within a p start past before mask =
    let al = allowed_rules a p start past in
    let end = before ++ singles_after a p start past in
    let n = length end in
    let more = length-append before (singles_after a p start past) in
    let many = length-map al (Single (length past)) in
    let ls = filter (λ l. not (has_bit p.empty l)) (range_with_len 0 (length a.locations)) in
    let early = Within-more (length before) n (counter_rows a p before) (omega arith) (counters_within a before ls) in
    let chosen = Within-more (length before) n (guard_rows a before (has_bit mask) 0 a.fall) (omega arith) (guards_within a before (has_bit mask) 0 a.fall) in
    let row = singles_row before al in
    let zeros = length-map before (λ (m : Meaning). pos 0) in
    let ones = length-map al (λ (r : ℕ). pos 1) in
    let both = length-append (map (λ (m : Meaning). pos 0) before) (map (λ (r : ℕ). pos 1) al) in
    let turned = length-map row.coefficients (λ c. pos 0 -ℤ c) in
    let pair : Within n (row ∷ opposite row ∷ []) = (omega arith, (omega arith, tt)) in
    let late = counters_within a end ls in
    let gone = Within-negated n (guard_rows a end (has_bit mask) 0 a.fall) (guards_within a end (has_bit mask) 0 a.fall) in
    let left = guards_within a end (λ j. not (has_fallen start (Fall mask ∷ past) j)) 0 a.fall in
    let s = standing_rows a start (Fall mask ∷ past) end in
    let g = map negated (guard_rows a end (has_bit mask) 0 a.fall) in
    let c = counter_rows a p end in
    Within-append n (counter_rows a p before) (guard_rows a before (has_bit mask) 0 a.fall ++ ((row ∷ opposite row ∷ []) ++ (c ++ (g ++ s)))) early
    (Within-append n (guard_rows a before (has_bit mask) 0 a.fall) ((row ∷ opposite row ∷ []) ++ (c ++ (g ++ s))) chosen
    (Within-append n (row ∷ opposite row ∷ []) (c ++ (g ++ s)) pair
    (Within-append n c (g ++ s) late (Within-append n g s gone left))))

-- the rows of a word are over its unknowns
pub word_within : (a : Automaton) (p : Pattern) (start : ℕ) (past : List Element) → Within (length (meanings a p start past)) (word_rows a p start past)
unfolding word_rows meanings
word_within a p start [] = start_within a p start
word_within a p start (Event e ∷ past) =
    let ms = meanings a p start past in
    let end = ms ++ counts_after a p start past in
    Within-append (length end) (word_rows a p start past) (happening_rows a p start past end e)
    (Within-more (length ms) (length end) (word_rows a p start past) (omega (arith, length-append ms (counts_after a p start past)))
    (word_within a p start past)) (happening_within a p start past end e)
word_within a p start (Rise i ∷ past) =
    let ms = meanings a p start past in
    let end = ms ++ counts_after a p start past in
    Within-append (length end) (word_rows a p start past) (rise_rows a p start past end i)
    (Within-more (length ms) (length end) (word_rows a p start past) (omega (arith, length-append ms (counts_after a p start past)))
    (word_within a p start past)) (rise_within a p start past end i)
word_within a p start (Fall mask ∷ past) =
    let ms = meanings a p start past in
    let before = ms ++ counts_after a p start past in
    let end = before ++ singles_after a p start past in
    Within-append (length end) (word_rows a p start past) (fall_rows a p start past before end mask)
    (Within-more (length ms) (length end) (word_rows a p start past)
    (omega (arith, length-append ms (counts_after a p start past), length-append before (singles_after a p start past))) (word_within a p start past))
    (fall_within a p start past before mask)

combine-take : (n : ℕ) (cs : List ℤ) (vs : List ℕ) → length cs ≤ n → sum_of_products cs (take n vs) ≡ sum_of_products cs vs
unfolding sum_of_products
combine-take n [] vs h = refl
combine-take zero (c ∷ cs) vs h = absurd (omega arith)
combine-take (suc n) (c ∷ cs) [] h = refl
combine-take (suc n) (c ∷ cs) (v ∷ vs) h = ap (λ z. (c *ℤ pos v) +ℤ z) (combine-take n cs vs (omega arith))

hold_take : (n : ℕ) (rows : List LinearRow) (vs : List ℕ) → Within n rows → AllHold vs rows → AllHold (take n vs) rows
hold_take n [] vs w h = tt
hold_take n (row ∷ rows) vs w h = (let held = h.0 in omega (arith, ints, combine-take n row.coefficients vs w.0), hold_take n rows vs w.1 h.1)

fewer : (a : Automaton) (p : Pattern) (start : ℕ) (e : Element) (past : List Element)
    → length (meanings a p start past) ≤ length (meanings a p start (e ∷ past))
unfolding meanings
fewer a p start (Event e) past = omega (arith, length-append (meanings a p start past) (counts_after a p start past))
fewer a p start (Rise i) past = omega (arith, length-append (meanings a p start past) (counts_after a p start past))
fewer a p start (Fall mask) past = omega (
  arith,
  length-append (meanings a p start past) (counts_after a p start past),
  length-append (meanings a p start past ++ counts_after a p start past)
      (singles_after a p start past),
)

-- a word has no fewer unknowns than its prefixes
pub prefix_fewer : (a : Automaton) (p : Pattern) (start : ℕ) (past future : List Element)
    → length (meanings a p start past) ≤ length (meanings a p start (extend past future))
prefix_fewer a p start past [] = omega arith
prefix_fewer a p start past (e ∷ future) = omega (arith, fewer a p start e past, prefix_fewer a p start (e ∷ past) future)

pub prefix_solves : (a : Automaton) (p : Pattern) (start : ℕ) (word : List Element) (vs : List ℕ) → SolvesWord a p start (reverse word) [] vs → (k : ℕ)
    → SolvesWord a p start (reverse (take k word)) [] (values_of_prefix a p start (take k word) vs)
prefix_solves a p start word vs s k =
    let past = reverse (take k word) in
    let n = length (meanings a p start past) in
    let less : n ≤ length (meanings a p start (reverse word)) = subst (λ (q : List Element). n ≤ length (meanings a p start q)) (cut_at word k)
    (prefix_fewer a p start past (drop k word)) in
    let rows = prefix_solved a p start word vs (AllHold-left vs (word_rows a p start (reverse word)) [] s.rows_hold) k in
    record {
      count = length-take-le n vs (omega (arith, s.count));
      rows_hold = AllHold-append (take n vs) (word_rows a p start past) [] (hold_take n (word_rows a p start past) vs (word_within a p start past) rows) tt;
    }
