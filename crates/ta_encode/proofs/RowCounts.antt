-- a legal word has few unknowns, and its system few variables
use Rattle.ta_encode.proofs.Common.{Row, PatternOver, Comparison, counts_after, singles_after, bound_row, form_row, counter_row, counter_rows, condition_rows}
use Rattle.ta_encode.proofs.Common.{guard_rows, start_guard_rows, processes_row, opposite, negated, singles_row, event_rows, standing_rows}
use Rattle.ta_encode.proofs.CursorCommon.{◌≡◌, inl, inr, ℕ, suc, ◌+◌, ◌*◌, ◌<◌, ◌≤◌, ◌^◌, List, [], ◌∷◌, ◌++◌, length, map, cond, Bool, true, false, not}
use Rattle.ta_encode.proofs.CursorCommon.{slice_get, Option, None, Some, arith, ap, length-append, filter, ◌==◌, length-map, count_few, System, has_bit}
use Rattle.ta_encode.proofs.CursorCommon.{range_with_len, Automaton, Pattern, Element, Event, Rise, Fall, LegalWord, allowed_rules, has_event, has_rise}
use Rattle.ta_encode.proofs.CursorCommon.{has_fallen, is_ready, is_standing, in_children, event_new, rise_new, fall_new, legal_length, SystemAt, Pending}
use Rattle.ta_encode.proofs.CursorCommon.{Search, rows_count, IsSmall}
use Rattle.ta_base.proofs.Naturals.{count, count_most}
use Rattle.ta_automaton.specs.Narrow.{IsNarrow}
use Rattle.ta_automaton.specs.declared.pattern.Event.{Event as PatternEvent}
use Rattle.ta_encode.specs.declared.meaning.Meaning.{Meaning}
use Rattle.ta_encode.specs.Unknowns.{meanings, start_meanings}
use Rattle.ta_encode.specs.System.{start_rows, rise_rows, happening_rows, fall_rows, word_rows}
use Rattle.ta_encode.proofs.Drafts.{start_few as start_meanings_few, counts_few, singles_few}

-- a comparison has at most two rows
pub condition_few : (a : Automaton) (ms : List Meaning) (ks : List Comparison) → length (condition_rows a ms ks) ≤ 2 * length ks
condition_few a ms [] = omega arith
condition_few a ms (k ∷ ks) =
    let row = λ (r : Row). form_row a ms r.form in
    let most = k.most in
    omega (arith, length-append (map row k.rows) (condition_rows a ms ks), length-map k.rows row, condition_few a ms ks)

pub guards_few : (a : Automaton) (ms : List Meaning) (test : ℕ → Bool) (k : ℕ) (rs : List Row) → length (guard_rows a ms test k rs) ≤ length rs
guards_few a ms test k [] = omega arith
guards_few a ms test k (r ∷ rs) = kept (test k) (guards_few a ms test (k + 1) rs)
  where
    kept : (b : Bool) → length (guard_rows a ms test (k + 1) rs) ≤ length rs
        → length (cond b (form_row a ms r.form ∷ guard_rows a ms test (k + 1) rs) (guard_rows a ms test (k + 1) rs)) ≤ suc (length rs)
    kept true h = omega arith
    kept false h = omega arith

start_guards_few : (a : Automaton) (ms : List Meaning) (start k : ℕ) (rs : List Row) → length (start_guard_rows a ms start k rs) ≤ length rs
start_guards_few a ms start k [] = omega arith
start_guards_few a ms start k (r ∷ rs) = let rest = start_guards_few a ms start (k + 1) rs in omega arith

event_few : (a : Automaton) (ms : List Meaning) (event : Option PatternEvent) → length (event_rows a ms event) ≤ 32
event_few a ms None = omega arith
event_few a ms (Some event) = let limit = event.condition.limit in omega (arith, condition_few a ms event.condition.comparisons)

counters_few : (a : Automaton) → IsNarrow a → (p : Pattern) (ms : List Meaning) → length (counter_rows a p ms) ≤ 32
counters_few a narrow p ms =
    let limit = narrow.locations in
    let test = λ (l : ℕ). not (has_bit p.empty l) in
    omega (arith, length-map (filter test (range_with_len 0 (length a.locations))) (counter_row a ms), count_few test (length a.locations))

rise_guards_few : (a : Automaton) → IsNarrow a → (ms : List Meaning) (test : ℕ → Bool) → length (guard_rows a ms test 0 a.rise) ≤ 16
rise_guards_few a narrow ms test = let limit = narrow.rise in omega (arith, guards_few a ms test 0 a.rise)

fall_guards_few : (a : Automaton) → IsNarrow a → (ms : List Meaning) (test : ℕ → Bool) → length (guard_rows a ms test 0 a.fall) ≤ 6
fall_guards_few a narrow ms test = let limit = narrow.fall in omega (arith, guards_few a ms test 0 a.fall)

start_few : (a : Automaton) → IsNarrow a → (p : Pattern) (start : ℕ) → length (start_rows a p start) ≤ 72
unfolding start_rows
start_few a narrow p start =
    let ms = start_meanings a p in
    let processes = processes_row a ms ∷ opposite (processes_row a ms) ∷ [] in
    let condition = condition_rows a ms p.start.comparisons in
    let guards = start_guard_rows a ms start 0 a.fall in
    let resilience_limit = a.resilience.limit in
    let start_limit = p.start.limit in
    let fall_limit = narrow.fall in
    omega (
      arith,
      length-append (condition_rows a ms a.resilience.comparisons) (processes ++ (condition ++ guards)),
      length-append condition guards,
      condition_few a ms a.resilience.comparisons,
      condition_few a ms p.start.comparisons,
      start_guards_few a ms start 0 a.fall,
    )

rise_few : (a : Automaton) → IsNarrow a → (p : Pattern) (start : ℕ) (past : List Element) (ms : List Meaning) (i : ℕ)
    → length (rise_rows a p start past ms i) ≤ 84
unfolding rise_rows
rise_few a narrow p start past ms i =
    let guards = guard_rows a ms (λ k. k == i) 0 a.rise in
    let standing = standing_rows a start past ms in
    omega (
      arith,
      length-append (counter_rows a p ms) (guards ++ standing),
      length-append guards standing,
      counters_few a narrow p ms,
      rise_guards_few a narrow ms
          (λ k. k == i),
      fall_guards_few a narrow ms (λ j. not (has_fallen start past j)),
    )

happening_few : (a : Automaton) → IsNarrow a → (p : Pattern) (start : ℕ) (past : List Element) (ms : List Meaning) (e : ℕ)
    → length (happening_rows a p start past ms e) ≤ 84
unfolding happening_rows
happening_few a narrow p start past ms e =
    let event = event_rows a ms (slice_get p.events e) in
    let standing = standing_rows a start past ms in
    omega (
      arith,
      length-append (counter_rows a p ms) (event ++ standing),
      length-append event standing,
      counters_few a narrow p ms,
      event_few a ms
          (slice_get p.events e),
      fall_guards_few a narrow ms (λ j. not (has_fallen start past j)),
    )

fall_few : (a : Automaton) → IsNarrow a → (p : Pattern) (start : ℕ) (past : List Element) (before ms : List Meaning) (mask : ℕ)
    → length (fall_rows a p start past before ms mask) ≤ 84
unfolding fall_rows
fall_few a narrow p start past before ms mask =
    let falling = guard_rows a before (has_bit mask) 0 a.fall in
    let single = singles_row before (allowed_rules a p start past) in
    let fallen = guard_rows a ms (has_bit mask) 0 a.fall in
    let standing = standing_rows a start (Fall mask ∷ past) ms in
    let last = map negated fallen ++ standing in
    let singles = single ∷ opposite single ∷ [] in
    omega (
      arith,
      length-append (counter_rows a p before) (falling ++ (singles ++ (counter_rows a p ms ++ last))),
      length-append falling (singles ++ (counter_rows a p ms ++ last)),
      length-append (counter_rows a p ms) last,
      length-append (map negated fallen) standing,
      length-map fallen negated,
      counters_few a narrow p before,
      counters_few a narrow p ms,
      fall_guards_few a narrow before (has_bit mask),
      fall_guards_few a narrow ms (has_bit mask),
      fall_guards_few a narrow ms (λ j. not (has_fallen start (Fall mask ∷ past) j)),
    )

-- each element adds at most 84 rows
word_few : (a : Automaton) → IsNarrow a → (p : Pattern) (start : ℕ) (past : List Element) → length (word_rows a p start past) ≤ 72 + 84 * length past
unfolding word_rows
word_few a narrow p start [] = omega (arith, start_few a narrow p start)
word_few a narrow p start (Event e ∷ past) =
    let ms = meanings a p start (Event e ∷ past) in
    omega (
      arith,
      length-append (word_rows a p start past) (happening_rows a p start past ms e),
      happening_few a narrow p start past ms e,
      word_few a narrow p
          start past,
    )
word_few a narrow p start (Rise i ∷ past) =
    let ms = meanings a p start (Rise i ∷ past) in
    omega (arith, length-append (word_rows a p start past) (rise_rows a p start past ms i), rise_few a narrow p start past ms i, word_few a narrow p start past)
word_few a narrow p start (Fall mask ∷ past) =
    let before = meanings a p start past ++ counts_after a p start past in
    let ms = meanings a p start (Fall mask ∷ past) in
    omega (
      arith,
      length-append (word_rows a p start past) (fall_rows a p start past before ms mask),
      fall_few a narrow p start past before ms mask,
      word_few a narrow p start
          past,
    )

-- at most 48 unknowns at the start; an event or a rise adds at most 128, a fall at most 256
none_adds : (a : Automaton) → IsNarrow a → (p : Pattern) (start : ℕ) → length (meanings a p start []) ≤ 48
unfolding meanings
none_adds a narrow p start = omega (arith, start_meanings_few a p, narrow.parameters, narrow.locations)

event_adds : (a : Automaton) → IsNarrow a → (p : Pattern) (start : ℕ) (past : List Element) (x : ℕ)
    → length (meanings a p start (Event x ∷ past)) ≤ length (meanings a p start past) + 128
unfolding meanings
event_adds a narrow p start past x = omega
    (arith, length-append (meanings a p start past) (counts_after a p start past), counts_few a p start past, narrow.rules)

rise_adds : (a : Automaton) → IsNarrow a → (p : Pattern) (start : ℕ) (past : List Element) (x : ℕ)
    → length (meanings a p start (Rise x ∷ past)) ≤ length (meanings a p start past) + 128
unfolding meanings
rise_adds a narrow p start past x = omega
    (arith, length-append (meanings a p start past) (counts_after a p start past), counts_few a p start past, narrow.rules)

fall_adds : (a : Automaton) → IsNarrow a → (p : Pattern) (start : ℕ) (past : List Element) (x : ℕ)
    → length (meanings a p start (Fall x ∷ past)) ≤ length (meanings a p start past) + 256
unfolding meanings
fall_adds a narrow p start past x =
    omega (
      arith,
      length-append (meanings a p start past ++ counts_after a p start past) (singles_after a p start past),
      length-append (meanings a p start past)
          (counts_after a p start past),
      counts_few a p start past,
      singles_few a p start past,
      narrow.rules,
    )

-- a word's events and guards, where a fall guard counts twice
abbrev heft : Automaton → Pattern → ℕ → List Element → ℕ
heft a p start past = count (has_event past) (length p.events) + (count (has_rise past) (length a.rise) + 2 * count (has_fallen start past) (length a.fall))

event_heft : (a : Automaton) (p : Pattern) (start : ℕ) (past : List Element) (x : ℕ) → is_ready p past x ≡ true → x < length p.events
    → heft a p start past + 1 ≤ heft a p start (Event x ∷ past)
unfolding has_rise has_fallen
event_heft a p start past x ready b = omega (arith, event_new p past x ready b)

rise_heft : (a : Automaton) (p : Pattern) (start : ℕ) (past : List Element) (x : ℕ) → not (has_rise past x) ≡ true → x < length a.rise
    → heft a p start past + 1 ≤ heft a p start (Rise x ∷ past)
unfolding has_event has_fallen
rise_heft a p start past x new b = omega (arith, rise_new a past x new b)

fall_heft : (a : Automaton) (p : Pattern) (start : ℕ) (past : List Element) (x : ℕ) → is_standing a start past x ≡ true → 1 ≤ x → x < 2 ^ length a.fall
    → heft a p start past + 2 ≤ heft a p start (Fall x ∷ past)
unfolding has_event has_rise
fall_heft a p start past x standing least most = omega (arith, fall_new a start past x standing least most)

unknowns_few : (a : Automaton) → IsNarrow a → (p : Pattern) (start : ℕ) (past : List Element) → LegalWord a p start past
    → length (meanings a p start past) ≤ 48 + 128 * heft a p start past
unknowns_few a narrow p start [] legal = omega (arith, none_adds a narrow p start)
unknowns_few a narrow p start (e ∷ past) legal =
    let rest = unknowns_few a narrow p start past legal.1 in
    elim (in_children a p [] start past e legal.0) [
      | inl c ↦ (
          let below : c.0 < length p.events = (let q = c.4 in omega arith) in
          let same = ap (λ x. length (meanings a p start (x ∷ past))) c.1 in
          let weighs = ap (λ x. heft a p start (x ∷ past)) c.1 in
          omega (arith, same, weighs, event_adds a narrow p start past c.0, event_heft a p start past c.0 c.2 below)
          )
      | inr (inl c) ↦ (
          let below : c.0 < length a.rise = (let q = c.4 in omega arith) in
          let same = ap (λ x. length (meanings a p start (x ∷ past))) c.1 in
          let weighs = ap (λ x. heft a p start (x ∷ past)) c.1 in
          omega (arith, same, weighs, rise_adds a narrow p start past c.0, rise_heft a p start past c.0 c.2 below)
          )
      | inr (inr c) ↦ (
          let below : c.0 < 2 ^ length a.fall = (let q = c.4 in let low = c.3 in omega arith) in
          let same = ap (λ x. length (meanings a p start (x ∷ past))) c.1 in
          let weighs = ap (λ x. heft a p start (x ∷ past)) c.1 in
          omega (arith, same, weighs, fall_adds a narrow p start past c.0, fall_heft a p start past c.0 c.2 c.3 below)
          )
    ]

-- at most 16 parameters and 32 start counts; 8 events and 16 rise guards, with 128 unknowns each; 6 fall guards, with 256 each
pub few_unknowns : (a : Automaton) → IsNarrow a → (p : Pattern) (start : ℕ) (past : List Element) → PatternOver a p → LegalWord a p start past
    → length (meanings a p start past) ≤ 4656
few_unknowns a narrow p start past over legal =
    omega (
      arith,
      unknowns_few a narrow p start past legal,
      over.events_limit,
      narrow.rise,
      narrow.fall,
      count_most (has_event past) (length p.events),
      count_most (has_rise past) (length a.rise),
      count_most (has_fallen start past) (length a.fall),
    )

-- the rows of a legal word, which has at most 30 elements, but for the bounds
pub few_rows : (a : Automaton) → IsNarrow a → (p : Pattern) (start : ℕ) (past : List Element) → PatternOver a p → LegalWord a p start past
    → length (word_rows a p start past) ≤ 2592
few_rows a narrow p start past over legal = omega (arith, word_few a narrow p start past, legal_length a p start past narrow over.events_limit legal)

-- the unknowns and the rows of a word's system
pub small_of : {E : Type 0} (s : Search E) (w : Pending E) (system : System) → s.unknowns w.start w.past ≤ 4656 → length (s.rows w.start w.past) ≤ 2640
    → SystemAt s w system → IsSmall w.bounds system
small_of s w system unknowns few is =
    let words = s.rows w.start w.past in
    let bounds = map bound_row w.bounds in
    omega (arith, is.unknowns, unknowns, rows_count (words ++ bounds) system.rows is.rows, length-append words bounds, length-map w.bounds bound_row, few)
