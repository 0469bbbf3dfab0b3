-- The numbers of a word's rows are in range, so each word has a system.
use Rattle.ta_encode.proofs.Common.{◌≡◌, ◌≢◌, ⊎_elim, ℕ, zero, suc, ℤ, pos, negsuc, ◌+◌, ◌-◌, ◌*◌, ◌^◌, ◌<◌, ◌≤◌, ◌+ℤ◌, ◌-ℤ◌, ◌*ℤ◌, ◌≤ℤ◌, ◌<ℤ◌, unsigned_abs}
use Rattle.ta_encode.proofs.Common.{Bool, true, false, not, eqb, cond, List, [], ◌∷◌, ◌++◌, length, length-append, map, get_or, slice_get, Option, Some, None}
use Rattle.ta_encode.proofs.Common.{arith, refl, sym, ap, subst, ◌∙◌, AllByRecursion, ◌==◌, if◌then◌else◌, nat_lt, ints, length-map, coefficients_turned}
use Rattle.ta_encode.proofs.Common.{each_append, each_map_all, each_weaker, abs_minus, abs_product, abs_sum, choose_small, less_small, zero_or_not, InRange}
use Rattle.ta_encode.proofs.Common.{AllBelow, coefficient, IsNormal, terms_value, Form, Row, System, IsNormal-higher, IsNormal-lower, coefficient-below}
use Rattle.ta_encode.proofs.Common.{Automaton, Comparison, File, Pattern, Rule, has_bit, range_with_len, one_if, location_place, shared_change, rule_change}
use Rattle.ta_encode.proofs.Common.{rule_within, pattern_within, Element, Event, Rise, Fall, allowed_rules, has_fallen, IsRowOf, AreRowsOf, SystemAt}
use Rattle.ta_encode.proofs.Common.{BoundsWithin, pattern_search, sample_meanings, sample_rows, sample_search, Pending, Search, bounded_rows, Meaning}
use Rattle.ta_encode.proofs.Common.{Parameter, Start, Count, Single, place_coefficient, start_meanings, meanings, counts_after, singles_after, LinearRow, Bound}
use Rattle.ta_encode.proofs.Common.{Side, Low, High, bound_row, only_at, side_row, opposite, negated, form_row, counter_row, counter_rows, condition_rows}
use Rattle.ta_encode.proofs.Common.{guard_rows, start_guard_rows, start_coefficient, processes_row, singles_row, event_rows, standing_rows, start_rows}
use Rattle.ta_encode.proofs.Common.{rise_rows, happening_rows, fall_rows, word_rows, SmallForm, SmallRows, SmallCondition, SmallEvents, cond_both, each_map}
use Rattle.ta_encode.proofs.Common.{cond_apart, cond_same, +ℤ_idr, filter}
use Rattle.std.proofs.Math.IntN.{+ℤ_idl}
use Rattle.ta_base.proofs.Totals.{one_if-small}
use Rattle.ta_automaton.specs.declared.pattern.Event.{Event as PatternEvent}
use Rattle.ta_encode.proofs.Changes.{small_updates}
use Rattle.ta_encode.proofs.Drafts.{events_small, start_small as small_at_start}
use Rattle.ta_encode.proofs.Running.{Small}
use Rattle.ta_encode.proofs.Samples.{sample_few}
use Rattle.ta_encode.proofs.Smallness.{fall_rows_small, processes_small, resilience_small, rise_rows_small}

updates_small : (ts : List (ℕ × ℤ)) (x : ℕ) → AllByRecursion Small ts → unsigned_abs (coefficient ts x) ≤ length ts * 1000000000
updates_small [] x h = omega arith
updates_small (t ∷ ts) x h =
    let first = choose_small (t.0 == x) t.1 (pos 0) 1000000000 h.0 (omega arith) in
    let whole = abs_sum (if t.0 == x then t.1 else pos 0) (coefficient ts x) 1000000000 (length ts * 1000000000) first (updates_small ts x h.1) in
    omega (arith, whole)

shared_small : (a : Automaton) (rule : Rule) (place : ℕ) → length rule.updates ≤ 16 → AllByRecursion Small rule.updates
    → unsigned_abs (shared_change a rule place) ≤ 16000000000
unfolding shared_change
shared_small a rule place few small =
    let there : unsigned_abs (coefficient rule.updates (place - length a.parameters)) ≤ 16000000000 = omega
    (arith, updates_small rule.updates (place - length a.parameters) small) in
    choose_small (nat_lt place (length a.parameters)) (pos 0) _ 16000000000 (omega arith)
    (choose_small (nat_lt place (length a.parameters + length a.shared)) (coefficient rule.updates (place - length a.parameters)) (pos 0) 16000000000 there
    (omega arith))

change_small : (a : Automaton) (r : ℕ) (o : Option Rule) (place : ℕ) → slice_get a.rules r ≡ o → unsigned_abs (rule_change a o place) ≤ 17000000000
change_small a r None place at = omega arith
change_small a r (Some rule) place at =
    let within = rule_within a r rule at in
    let shared = shared_small a rule place within.updates_limit (small_updates (length a.shared) rule.updates within.updates) in
    let to = one_if (location_place a rule.to) place in
    let from = one_if (location_place a rule.from) place in
    let move = abs_minus to from 1 1 (one_if-small (location_place a rule.to) place) (one_if-small (location_place a rule.from) place) in
    omega (arith, abs_sum (shared_change a rule place) (to -ℤ from) 16000000000 2 shared move)

place_small : (a : Automaton) (m : Meaning) (place : ℕ) → unsigned_abs (place_coefficient a m place) ≤ 17000000000
place_small a (Parameter i) place = omega (arith, one_if-small i place)
place_small a (Start l) place = omega (arith, one_if-small (location_place a l) place)
place_small a (Count k r) place = change_small a r (slice_get a.rules r) place refl
place_small a (Single k r) place = change_small a r (slice_get a.rules r) place refl

value_small : (a : Automaton) (m : Meaning) (ts : List (ℕ × ℤ)) → AllByRecursion Small ts
    → unsigned_abs (terms_value (place_coefficient a m) ts) ≤ length ts * 17000000000000000000
value_small a m [] h = omega arith
value_small a m (t ∷ ts) h =
    let z = place_coefficient a m t.0 in
    let whole = abs_sum (t.1 *ℤ z) (terms_value (place_coefficient a m) ts) 17000000000000000000 (length ts * 17000000000000000000)
    (abs_product t.1 z h.0 (place_small a m t.0)) (value_small a m ts h.1) in
    omega (arith, whole)

form_small : (a : Automaton) (m : Meaning) (f : Form) → SmallForm f → unsigned_abs (terms_value (place_coefficient a m) f.terms) ≤ 2 ^ 72
form_small a m f small = omega (arith, value_small a m f.terms small.terms.small, small.terms.few)

-- ---- rows whose numbers are small: a constant up to some number, and no more coefficients than unknowns
pub record Mild (most n : ℕ) (l : LinearRow) : Type 0 where
  pub constant : unsigned_abs l.constant ≤ most
  pub coefficients : AllByRecursion (λ (c : ℤ). unsigned_abs c ≤ 2 ^ 73) l.coefficients
  pub count : length l.coefficients ≤ n

abbrev pub AllMild : ℕ → ℕ → List LinearRow → Type 0
AllMild most n ls = AllByRecursion (Mild most n) ls

more : (most most' n n' : ℕ) (ls : List LinearRow) → most ≤ most' → n ≤ n' → AllMild most n ls → AllMild most' n' ls
more most most' n n' ls low few all = each_weaker (Mild most n) (Mild most' n') ls
    (λ l mild. record { constant = (let h = mild.constant in omega arith); coefficients = mild.coefficients; count = (let h = mild.count in omega arith) }) all

pub opposite_mild : (most n : ℕ) (l : LinearRow) → Mild most n l → Mild most n (opposite l)
opposite_mild most n l h = record {
  constant = less_small l.constant most h.constant;
  coefficients = coefficients_turned l.coefficients h.coefficients;
  count =
      (let few = h.count in omega (arith, length-map l.coefficients (λ c. pos 0 -ℤ c)));
}

negated_mild : (most n : ℕ) (l : LinearRow) → Mild most n l → Mild (most + 1) n (negated l)
negated_mild most n l h = record {
  constant = abs_minus (pos 0 -ℤ l.constant) (pos 1) most 1 (less_small l.constant most h.constant) (omega arith);
  coefficients = coefficients_turned
      l.coefficients h.coefficients;
  count = (let few = h.count in omega (arith, length-map l.coefficients (λ c. pos 0 -ℤ c)));
}

one_more : (n : ℕ) (l : LinearRow) → Mild 1000000000 n l → Mild 1000000001 n l
one_more n l mild = record { constant = (let h = mild.constant in omega arith); coefficients = mild.coefficients; count = mild.count }

form_mild : (a : Automaton) (ms : List Meaning) (f : Form) → SmallForm f → Mild 1000000000 (length ms) (form_row a ms f)
form_mild a ms f small = record {
  constant = small.constant;
  coefficients = each_map_all (λ (c : ℤ). unsigned_abs c ≤ 2 ^ 73) (λ m. terms_value (place_coefficient a m) f.terms) ms
      (λ m. omega (arith, form_small a m f small));
  count = omega (arith, length-map ms (λ m. terms_value (place_coefficient a m) f.terms));
}

pub counter_mild : (a : Automaton) (ms : List Meaning) (l : ℕ) → Mild 1000000001 (length ms) (counter_row a ms l)
counter_mild a ms l = record {
  constant = omega arith;
  coefficients = each_map_all (λ (c : ℤ). unsigned_abs c ≤ 2 ^ 73) (λ m. place_coefficient a m (location_place a l)) ms
      (λ m. omega (arith, place_small a m (location_place a l)));
  count = omega (arith, length-map ms (λ m. place_coefficient a m (location_place a l)));
}

counters_mild : (a : Automaton) (ms : List Meaning) (ls : List ℕ) → AllMild 1000000001 (length ms) (map (counter_row a ms) ls)
counters_mild a ms ls = each_map_all (Mild 1000000001 (length ms)) (counter_row a ms) ls (λ l. counter_mild a ms l)

forms_mild : (a : Automaton) (ms : List Meaning) (rows : List Row) → SmallRows rows
    → AllMild 1000000001 (length ms) (map (λ (r : Row). form_row a ms r.form) rows)
forms_mild a ms [] small = tt
forms_mild a ms (r ∷ rs) small = (one_more (length ms) (form_row a ms r.form) (form_mild a ms r.form small.0), forms_mild a ms rs small.1)

condition_mild : (a : Automaton) (ms : List Meaning) (ks : List Comparison) → AllByRecursion (λ (k : Comparison). SmallRows k.rows) ks
    → AllMild 1000000001 (length ms) (condition_rows a ms ks)
condition_mild a ms [] small = tt
condition_mild a ms (k ∷ ks) small = each_append (Mild 1000000001 (length ms)) (map (λ (r : Row). form_row a ms r.form) k.rows) (condition_rows a ms ks)
    (forms_mild a ms k.rows small.0) (condition_mild a ms ks small.1)

guards_mild : (a : Automaton) (ms : List Meaning) (test : ℕ → Bool) (k : ℕ) (rows : List Row) → SmallRows rows
    → AllMild 1000000000 (length ms) (guard_rows a ms test k rows)
guards_mild a ms test k [] small = tt
guards_mild a ms test k (r ∷ rs) small =
    let rest = guards_mild a ms test (k + 1) rs small.1 in
    cond_both (test k) (form_row a ms r.form ∷ guard_rows a ms test (k + 1) rs) (guard_rows a ms test (k + 1) rs) (AllByRecursion (Mild 1000000000 (length ms)))
    (λ _. (form_mild a ms r.form small.0, rest)) (λ _. rest)

guards_more : (a : Automaton) (ms : List Meaning) (test : ℕ → Bool) (rows : List Row) → SmallRows rows
    → AllMild 1000000001 (length ms) (guard_rows a ms test 0 rows)
guards_more a ms test rows small = more 1000000000 1000000001 (length ms) (length ms) (guard_rows a ms test 0 rows) (omega arith) (omega arith)
    (guards_mild a ms test 0 rows small)

negated_guards_mild : (a : Automaton) (ms : List Meaning) (test : ℕ → Bool) (rows : List Row) → SmallRows rows
    → AllMild 1000000001 (length ms) (map negated (guard_rows a ms test 0 rows))
negated_guards_mild a ms test rows small = each_map negated (Mild 1000000000 (length ms)) (Mild 1000000001 (length ms)) (guard_rows a ms test 0 rows)
    (λ l mild. negated_mild 1000000000 (length ms) l mild) (guards_mild a ms test 0 rows small)

-- rise guards that fail
pub negated_rises_mild : (a : Automaton) (ms : List Meaning) (test : ℕ → Bool) → AllMild 1000000001 (length ms) (map negated (guard_rows a ms test 0 a.rise))
negated_rises_mild a ms test = negated_guards_mild a ms test a.rise (rise_rows_small a)

one_of : (n : ℕ) (b : Bool) (x y : LinearRow) → Mild 1000000001 n x → Mild 1000000001 n y → Mild 1000000001 n (cond b x y)
one_of n true x y h g = h
one_of n false x y h g = g

start_guards_mild : (a : Automaton) (ms : List Meaning) (start k : ℕ) (rows : List Row) → SmallRows rows
    → AllMild 1000000001 (length ms) (start_guard_rows a ms start k rows)
start_guards_mild a ms start k [] small = tt
start_guards_mild a ms start k (r ∷ rs) small =
    let f = form_row a ms r.form in
    let mild = form_mild a ms r.form small.0 in (
      one_of (length ms) (has_bit start k) (negated f) f (negated_mild 1000000000 (length ms) f mild) (one_more (length ms) f mild),
      start_guards_mild a ms start
          (k + 1) rs small.1,
    )

start_coefficient-small : (m : Meaning) → unsigned_abs (start_coefficient m) ≤ 1
start_coefficient-small (Parameter i) = omega arith
start_coefficient-small _ = omega arith

processes_mild : (a : Automaton) (ms : List Meaning) → AllMild 1000000001 (length ms) (processes_row a ms ∷ opposite (processes_row a ms) ∷ [])
processes_mild a ms =
    let small = processes_small a in
    let mild : Mild 1000000001 (length ms) (processes_row a ms) = record {
      constant = (let h = small.constant in omega arith);
      coefficients = each_map_all (λ (c : ℤ). unsigned_abs c ≤ 2 ^ 73) (λ m. terms_value (place_coefficient a m) a.processes.terms -ℤ start_coefficient m) ms
          (λ m.
          omega (
            arith,
            abs_minus (terms_value (place_coefficient a m) a.processes.terms) (start_coefficient m) (2 ^ 72) 1 (form_small a m a.processes small)
                (start_coefficient-small m),
          ));
      count = omega (arith, length-map ms (λ m. terms_value (place_coefficient a m) a.processes.terms -ℤ start_coefficient m));
    } in
    (mild, (opposite_mild 1000000001 (length ms) (processes_row a ms) mild, tt))

singles_mild : (before : List Meaning) (rules : List ℕ) (n : ℕ) → length before + length rules ≤ n
    → AllMild 1000000001 n (singles_row before rules ∷ opposite (singles_row before rules) ∷ [])
singles_mild before rules n few =
    let zeros = map (λ (m : Meaning). pos 0) before in
    let ones = map (λ (r : ℕ). pos 1) rules in
    let mild : Mild 1000000001 n (singles_row before rules) = record {
      constant = omega arith;
      coefficients = each_append (λ (c : ℤ). unsigned_abs c ≤ 2 ^ 73) zeros ones
          (each_map_all (λ (c : ℤ). unsigned_abs c ≤ 2 ^ 73) (λ (m : Meaning). pos 0) before (λ m. omega arith))
          (each_map_all (λ (c : ℤ). unsigned_abs c ≤ 2 ^ 73) (λ (r : ℕ). pos 1) rules (λ r. omega arith));
      count = omega (arith, length-append zeros ones, length-map before (λ (m : Meaning). pos 0), length-map rules (λ (r : ℕ). pos 1));
    } in
    (mild, (opposite_mild 1000000001 n (singles_row before rules) mild, tt))

event_mild : (a : Automaton) (p : Pattern) (ms : List Meaning) (e : ℕ) → SmallEvents p → (o : Option PatternEvent) → slice_get p.events e ≡ o
    → AllMild 1000000001 (length ms) (event_rows a ms o)
event_mild a p ms e events None at = tt
event_mild a p ms e events (Some event) at = condition_mild a ms event.condition.comparisons (events.small e event at)

-- ---- the rows of a word
module _ (a : Automaton) (p : Pattern) (start_small : SmallCondition p.start) (events : SmallEvents p) where
  falls_mild : (ms : List Meaning) (test : ℕ → Bool) → AllMild 1000000001 (length ms) (guard_rows a ms test 0 a.fall)
  falls_mild ms test = guards_more a ms test a.fall (fall_rows_small a)

  kept_mild : (ms : List Meaning) → AllMild 1000000001 (length ms) (counter_rows a p ms)
  kept_mild ms = counters_mild a ms (filter (λ l. not (has_bit p.empty l)) (range_with_len 0 (length a.locations)))

  start_mild : (start : ℕ) → AllMild 1000000001 (length (start_meanings a p)) (start_rows a p start)
  unfolding start_rows
  start_mild start =
      let ms = start_meanings a p in
      let n = length ms in
      let pair = processes_row a ms ∷ opposite (processes_row a ms) ∷ [] in
      each_append (Mild 1000000001 n) (condition_rows a ms a.resilience.comparisons)
      (pair ++ (condition_rows a ms p.start.comparisons ++ start_guard_rows a ms start 0 a.fall))
      (condition_mild a ms a.resilience.comparisons (resilience_small a))
      (each_append (Mild 1000000001 n) pair (condition_rows a ms p.start.comparisons ++ start_guard_rows a ms start 0 a.fall) (processes_mild a ms)
      (each_append (Mild 1000000001 n) (condition_rows a ms p.start.comparisons) (start_guard_rows a ms start 0 a.fall)
      (condition_mild a ms p.start.comparisons start_small) (start_guards_mild a ms start 0 a.fall (fall_rows_small a))))

  happening_mild : (start : ℕ) (past : List Element) (ms : List Meaning) (e : ℕ) → AllMild 1000000001 (length ms) (happening_rows a p start past ms e)
  unfolding happening_rows
  happening_mild start past ms e =
      each_append (Mild 1000000001 (length ms)) (counter_rows a p ms) (event_rows a ms (slice_get p.events e) ++ standing_rows a start past ms) (kept_mild ms)
      (each_append (Mild 1000000001 (length ms)) (event_rows a ms (slice_get p.events e)) (standing_rows a start past ms)
      (event_mild a p ms e events (slice_get p.events e) refl) (falls_mild ms (λ j. not (has_fallen start past j))))

  rise_mild : (start : ℕ) (past : List Element) (ms : List Meaning) (i : ℕ) → AllMild 1000000001 (length ms) (rise_rows a p start past ms i)
  unfolding rise_rows
  rise_mild start past ms i =
      each_append (Mild 1000000001 (length ms)) (counter_rows a p ms) (guard_rows a ms (λ k. eqb k i) 0 a.rise ++ standing_rows a start past ms) (kept_mild ms)
      (each_append (Mild 1000000001 (length ms)) (guard_rows a ms (λ k. eqb k i) 0 a.rise) (standing_rows a start past ms)
      (guards_more a ms (λ k. eqb k i) a.rise (rise_rows_small a)) (falls_mild ms (λ j. not (has_fallen start past j))))

  gone_mild : (ms : List Meaning) (test : ℕ → Bool) → AllMild 1000000001 (length ms) (map negated (guard_rows a ms test 0 a.fall))
  gone_mild ms test = negated_guards_mild a ms test a.fall (fall_rows_small a)

  fall_mild : (start : ℕ) (past : List Element) (before : List Meaning) (mask : ℕ)
      → AllMild 1000000001 (length (before ++ singles_after a p start past)) (fall_rows a p start past before (before ++ singles_after a p start past) mask)
  unfolding fall_rows
  fall_mild start past before mask =
      let al = allowed_rules a p start past in
      let end = before ++ singles_after a p start past in
      let n = length end in
      let longer = length-append before (singles_after a p start past) in
      let many = length-map al (Single (length past)) in
      let early = more 1000000001 1000000001 (length before) n (counter_rows a p before) (omega arith) (omega arith) (kept_mild before) in
      let chosen = more 1000000001 1000000001 (length before) n (guard_rows a before (has_bit mask) 0 a.fall) (omega arith) (omega arith)
      (falls_mild before (has_bit mask)) in
      let pair = singles_row before al ∷ opposite (singles_row before al) ∷ [] in
      let s = standing_rows a start (Fall mask ∷ past) end in
      let g = map negated (guard_rows a end (has_bit mask) 0 a.fall) in
      let c = counter_rows a p end in
      each_append (Mild 1000000001 n) (counter_rows a p before) (guard_rows a before (has_bit mask) 0 a.fall ++ (pair ++ (c ++ (g ++ s)))) early
      (each_append (Mild 1000000001 n) (guard_rows a before (has_bit mask) 0 a.fall) (pair ++ (c ++ (g ++ s))) chosen
      (each_append (Mild 1000000001 n) pair (c ++ (g ++ s)) (singles_mild before al n (omega arith))
      (each_append (Mild 1000000001 n) c (g ++ s) (kept_mild end)
      (each_append (Mild 1000000001 n) g s (gone_mild end (has_bit mask)) (falls_mild end (λ j. not (has_fallen start (Fall mask ∷ past) j)))))))

  pub word_mild : (start : ℕ) (past : List Element) → AllMild 1000000001 (length (meanings a p start past)) (word_rows a p start past)
  unfolding word_rows meanings
  word_mild start [] = start_mild start
  word_mild start (Event e ∷ past) =
      let ms = meanings a p start past in
      let end = ms ++ counts_after a p start past in
      each_append (Mild 1000000001 (length end)) (word_rows a p start past) (happening_rows a p start past end e)
      (more 1000000001 1000000001 (length ms) (length end) (word_rows a p start past) (omega arith)
      (omega (arith, length-append ms (counts_after a p start past))) (word_mild start past)) (happening_mild start past end e)
  word_mild start (Rise i ∷ past) =
      let ms = meanings a p start past in
      let end = ms ++ counts_after a p start past in
      each_append (Mild 1000000001 (length end)) (word_rows a p start past) (rise_rows a p start past end i)
      (more 1000000001 1000000001 (length ms) (length end) (word_rows a p start past) (omega arith)
      (omega (arith, length-append ms (counts_after a p start past))) (word_mild start past)) (rise_mild start past end i)
  word_mild start (Fall mask ∷ past) =
      let ms = meanings a p start past in
      let before = ms ++ counts_after a p start past in
      let end = before ++ singles_after a p start past in
      each_append (Mild 1000000001 (length end)) (word_rows a p start past) (fall_rows a p start past before end mask)
      (more 1000000001 1000000001 (length ms) (length end) (word_rows a p start past) (omega arith)
      (omega (arith, length-append ms (counts_after a p start past), length-append before (singles_after a p start past))) (word_mild start past))
      (fall_mild start past before mask)

-- ---- the rows of the search for a sample
sample_mild : (a : Automaton) → AllMild 1000000001 (length (sample_meanings a)) (sample_rows a)
unfolding sample_rows
sample_mild a =
    let ms = sample_meanings a in
    each_append (Mild 1000000001 (length ms)) (condition_rows a ms a.resilience.comparisons) (processes_row a ms ∷ opposite (processes_row a ms) ∷ [])
    (condition_mild a ms a.resilience.comparisons (resilience_small a)) (processes_mild a ms)

-- ---- rows of the code

-- numbers in range, and no more coefficients than unknowns
record Fitting (n : ℕ) (l : LinearRow) : Type 0 where
  constant : InRange l.constant
  coefficients : AllByRecursion InRange l.coefficients
  count : length l.coefficients ≤ n

mild_fits : (n : ℕ) (l : LinearRow) → Mild 1000000001 n l → Fitting n l
mild_fits n l mild = record {
  constant = (let h = mild.constant in omega arith);
  coefficients = each_weaker (λ (c : ℤ). unsigned_abs c ≤ 2 ^ 73) InRange l.coefficients (λ c small. omega arith) mild.coefficients;
  count = mild.count;
}

-- a bound
only_fits : (u : ℕ) (z : ℤ) → InRange z → AllByRecursion InRange (only_at u z)
only_fits zero z fits = (fits, tt)
only_fits (suc u) z fits = (omega arith, only_fits u z fits)

only_count : (u : ℕ) (z : ℤ) → length (only_at u z) ≡ u + 1
only_count zero z = refl
only_count (suc u) z = omega (arith, only_count u z)

side_fits : (n u : ℕ) (floor : ℤ) (side : Side) → u < n → pos 0 ≤ℤ floor → floor <ℤ pos (2 ^ 126) → Fitting n (side_row u floor side)
side_fits n u floor Low below low high = record
    { constant = omega (arith, ints); coefficients = only_fits u (negsuc 0) (omega arith); count = omega (arith, only_count u (negsuc 0)) }
side_fits n u floor High below low high = record
    { constant = omega (arith, ints); coefficients = only_fits u (pos 1) (omega arith); count = omega (arith, only_count u (pos 1)) }

bounds_fit : (n : ℕ) (bs : List Bound) → BoundsWithin n bs → AllByRecursion (Fitting n) (map bound_row bs)
bounds_fit n [] within = tt
bounds_fit n (b ∷ bs) within = (let h = within.0 in side_fits n b.unknown b.floor b.side h.exists h.least h.most, bounds_fit n bs within.1)

-- terms with these coefficients, from some unknown on
record Terms (k : ℕ) (cs : List ℤ) : Type 0 where
  terms : List (ℕ × ℤ)
  normal : IsNormal k (k + length cs) terms
  there : (i : ℕ) → coefficient terms (k + i) ≡ get_or cs i (pos 0)

at_own : (k : ℕ) (c : ℤ) (ts : List (ℕ × ℤ)) → coefficient ((k, c) ∷ ts) k ≡ (c +ℤ coefficient ts k)
at_own k c ts = ap (λ z. z +ℤ coefficient ts k) (cond_same k k c (pos 0) refl)

at_other : (k x : ℕ) (c : ℤ) (ts : List (ℕ × ℤ)) → k ≢ x → coefficient ((k, c) ∷ ts) x ≡ coefficient ts x
at_other k x c ts ne = ap (λ z. z +ℤ coefficient ts x) (cond_apart k x c (pos 0) ne) ∙ +ℤ_idl (coefficient ts x)

IsNormal-from : (low low' high high' : ℕ) (ts : List (ℕ × ℤ)) → low' ≤ low → high ≡ high' → IsNormal low high ts → IsNormal low' high' ts
IsNormal-from low low' high high' ts less same normal = subst (λ h. IsNormal low' h ts) same (IsNormal-lower low low' high ts less normal)

-- of one more coefficient, which is zero or not
module _ (k : ℕ) (c : ℤ) (cs : List ℤ) (fits : InRange c) (rest : Terms (k + 1) cs) where
  shifted : (i : ℕ) → coefficient rest.terms (k + suc i) ≡ get_or cs i (pos 0)
  shifted i = ap (coefficient rest.terms) (let e : k + suc i ≡ (k + 1) + i = omega arith in e) ∙ rest.there i

  below : coefficient rest.terms k ≡ pos 0
  below = coefficient-below (k + 1) ((k + 1) + length cs) rest.terms k rest.normal (omega arith)

  there_without : c ≡ pos 0 → (i : ℕ) → coefficient rest.terms (k + i) ≡ get_or (c ∷ cs) i (pos 0)
  there_without none zero = ap (coefficient rest.terms) (let e : k + 0 ≡ k = omega arith in e) ∙ below ∙ sym none
  there_without none (suc i) = shifted i

  without : c ≡ pos 0 → Terms k (c ∷ cs)
  without none = record {
    terms = rest.terms;
    normal = IsNormal-from (k + 1) k ((k + 1) + length cs) (k + suc (length cs)) rest.terms (omega arith)
        (omega arith) rest.normal;
    there = there_without none;
  }

  there_with : (i : ℕ) → coefficient ((k, c) ∷ rest.terms) (k + i) ≡ get_or (c ∷ cs) i (pos 0)
  there_with zero = ap (coefficient ((k, c) ∷ rest.terms)) (let e : k + 0 ≡ k = omega arith in e) ∙ at_own k c rest.terms ∙ ap (λ z. c +ℤ z) below ∙ +ℤ_idr c
  there_with (suc i) = at_other k (k + suc i) c rest.terms (λ e. absurd (omega (arith, e))) ∙ shifted i

  with_it : c ≢ pos 0 → Terms k (c ∷ cs)
  with_it some = record {
    terms = (k, c) ∷ rest.terms;
    normal = (
      omega arith,
      record { not_zero = some; in_range = fits },
      IsNormal-from (k + 1) (k + 1) ((k + 1) + length cs) (k + suc (length cs)) rest.terms
          (omega arith) (omega arith) rest.normal,
    );
    there = there_with;
  }

  terms_more : Terms k (c ∷ cs)
  terms_more = ⊎_elim without with_it (zero_or_not c)

terms_exist : (k : ℕ) (cs : List ℤ) → AllByRecursion InRange cs → Terms k cs
terms_exist k [] fits = record { terms = []; normal = omega arith; there = λ i. refl }
terms_exist k (c ∷ cs) fits = terms_more k c cs fits.0 (terms_exist (k + 1) cs fits.1)

-- a row of the code
record CodeRow (n : ℕ) (l : LinearRow) : Type 0 where
  row : Row
  is : IsRowOf l row
  below : IsNormal 0 n row.form.terms

row_exists : (n : ℕ) (l : LinearRow) → n ≤ 2 ^ 32 → Fitting n l → CodeRow n l
row_exists n l few fits =
    let t = terms_exist 0 l.coefficients fits.coefficients in
    let count = fits.count in
    let below = IsNormal-higher 0 (0 + length l.coefficients) n t.terms (omega arith) t.normal in
    record {
      row = record {
        form = record {
          constant = l.constant;
          terms = t.terms;
          constant_fits = fits.constant;
          normal = IsNormal-higher 0 n (2 ^ 32) t.terms few
              below;
        };
      };
      is = record { constant = refl; coefficients = λ u. ap (coefficient t.terms) (let e : u ≡ 0 + u = omega arith in e) ∙ t.there u };
      below = below;
    }

record CodeRows (n : ℕ) (ls : List LinearRow) : Type 0 where
  rows : List Row
  are : AreRowsOf ls rows
  below : AllBelow n rows

rows_exist : (n : ℕ) (ls : List LinearRow) → n ≤ 2 ^ 32 → AllByRecursion (Fitting n) ls → CodeRows n ls
rows_exist n [] few fits = record { rows = []; are = tt; below = tt }
rows_exist n (l ∷ ls) few fits =
    let first = row_exists n l few fits.0 in
    let rest = rows_exist n ls few fits.1 in
    record { rows = first.row ∷ rest.rows; are = (first.is, rest.are); below = (first.below, rest.below) }

-- a word whose rows fit has a system
pub system_exists : {E : Type 0} (s : Search E) (w : Pending E) → s.unknowns w.start w.past ≤ 2 ^ 32
    → AllMild 1000000001 (s.unknowns w.start w.past) (s.rows w.start w.past) → BoundsWithin (s.unknowns w.start w.past) w.bounds → (system : System)
    × SystemAt s w system
system_exists s w few mild bounds =
    let n = s.unknowns w.start w.past in
    let own = each_weaker (Mild 1000000001 n) (Fitting n) (s.rows w.start w.past) (mild_fits n) mild in
    let r = rows_exist n (bounded_rows s w) few (each_append (Fitting n) (s.rows w.start w.past) (map bound_row w.bounds) own (bounds_fit n w.bounds bounds)) in
    (record { unknowns = n; rows = r.rows; within = r.below }, record { unknowns = refl; rows = r.are })

-- each word of a pattern of a file, whatever the pairs of rise guards, with few enough unknowns, has a system
pub word_system : (file : File) (number : ℕ) (p : Pattern) (pairs : List (ℕ × ℕ)) (w : Pending Element) → slice_get file.patterns number ≡ Some p
    → length (meanings file.automaton p w.start w.past) ≤ 2 ^ 32 → BoundsWithin (length (meanings file.automaton p w.start w.past)) w.bounds → (system : System)
    × SystemAt (pattern_search file.automaton p pairs) w system
word_system file number p pairs w at few bounds =
    let a = file.automaton in
    let over = pattern_within file number p at in
    system_exists (pattern_search a p pairs) w few (word_mild a p (small_at_start a p over) (events_small a p over) w.start w.past) bounds

-- and so has each word of the search for a sample
pub sample_system : (a : Automaton) (w : Pending Element) → BoundsWithin (length (sample_meanings a)) w.bounds → (system : System)
    × SystemAt (sample_search a) w system
sample_system a w bounds = system_exists (sample_search a) w (omega (arith, sample_few a)) (sample_mild a) bounds
