-- guards that have fallen fail at a word's end, since shared variables never fall
use Rattle.ta_encode.proofs.Common.{◌≡◌, inl, inr, ℕ, zero, suc, ◌+◌, pos, ◌+ℤ◌, ◌≤ℤ◌, List, [], ◌∷◌, ◌++◌, map, length, drop, cond, Bool, true, false, arith}
use Rattle.ta_encode.proofs.Common.{sym, ap, ◌∙◌, refl, subst, slice_get, Some, zero-add, ints, or_cases, Row, Automaton, Pattern, has_bit, total, change_of}
use Rattle.ta_encode.proofs.Common.{later_after, total-same, Later, stays_below, Element, Event, Rise, Fall, allowed_rules, has_fallen, Meaning, Count, Single}
use Rattle.ta_encode.proofs.Common.{meanings, counts_after, singles_after, place_coefficient, start_meanings, AllHold, condition_rows, counter_rows, fall_rows}
use Rattle.ta_encode.proofs.Common.{form_row, guard_rows, negated, opposite, processes_row, row_value, singles_row, standing_rows, start_guard_rows, start_rows}
use Rattle.ta_encode.proofs.Common.{word_rows}
use Rattle.ta_encode.proofs.Moments.{RowFails, negated_value, AllHold-left}
use Rattle.ta_encode.proofs.Segment.{may_rules}
use Rattle.ta_encode.proofs.Values.{AllHold-right, allowed_may, combine-split, form_at, place_value, unfolded, unfolded-may, unfolded-total}

-- a guard whose negated row holds at a moment fails there
pub guard_fails : (a : Automaton) (ms : List Meaning) (vs : List ℕ) (test : ℕ → Bool) (k : ℕ) (rows : List Row)
    → AllHold vs (map negated (guard_rows a ms test k rows)) → (j : ℕ) (row : Row) → slice_get rows j ≡ Some row → test (k + j) ≡ true
    → RowFails (place_value a ms vs) row
guard_fails a ms vs test k [] h j row at t = absurd (cc)
guard_fails a ms vs test k (r ∷ rs) h zero row at t =
    let same : r ≡ row = cc in
    let mine : test k ≡ true = (let e : k + 0 ≡ k = omega arith in ap test (sym e) ∙ t) in
    let held = (subst (λ b. AllHold vs (map negated (cond b (form_row a ms r.form ∷ guard_rows a ms test (k + 1) rs) (guard_rows a ms test (k + 1) rs)))) mine
    h).0 in
    subst (RowFails (place_value a ms vs)) same (omega (arith, ints, held, negated_value vs (form_row a ms r.form), form_at a ms vs r.form))
guard_fails a ms vs test k (r ∷ rs) h (suc j) row at t =
    guard_fails a ms vs test (k + 1) rs (rest (test k) h) j row at (let e : k + 1 + j ≡ k + suc j = omega arith in ap test e ∙ t)
  where
    rest : (b : Bool) → AllHold vs (map negated (cond b (form_row a ms r.form ∷ guard_rows a ms test (k + 1) rs) (guard_rows a ms test (k + 1) rs)))
        → AllHold vs (map negated (guard_rows a ms test (k + 1) rs))
    rest true g = g.1
    rest false g = g

-- a guard of the start set fails at the start
start_fails : (a : Automaton) (ms : List Meaning) (vs : List ℕ) (start k : ℕ) (rows : List Row) → AllHold vs (start_guard_rows a ms start k rows)
    → (j : ℕ) (row : Row) → slice_get rows j ≡ Some row → has_bit start (k + j) ≡ true → RowFails (place_value a ms vs) row
start_fails a ms vs start k [] h j row at t = absurd (cc)
start_fails a ms vs start k (r ∷ rs) h zero row at t =
    let same : r ≡ row = cc in
    let mine : has_bit start k ≡ true = (let e : k + 0 ≡ k = omega arith in ap (has_bit start) (sym e) ∙ t) in
    let held = subst (λ b. pos 0 ≤ℤ row_value vs (cond b (negated (form_row a ms r.form)) (form_row a ms r.form))) mine h.0 in
    subst (RowFails (place_value a ms vs)) same (omega (arith, ints, held, negated_value vs (form_row a ms r.form), form_at a ms vs r.form))
start_fails a ms vs start k (r ∷ rs) h (suc j) row at t =
    start_fails a ms vs start (k + 1) rs h.1 j row at (let e : k + 1 + j ≡ k + suc j = omega arith in ap (has_bit start) e ∙ t)

-- firings of allowed rules lead to a later point
later_firings : (a : Automaton) (p : Pattern) (start : ℕ) (past : List Element) (vs : List ℕ) (ms : List Meaning) (kind : ℕ → Meaning)
    → ((r i : ℕ) → place_coefficient a (kind r) i ≡ change_of a i r)
    → Later a (place_value a ms vs) (place_value a (ms ++ map kind (allowed_rules a p start past)) vs)
later_firings a p start past vs ms kind same =
    let al = allowed_rules a p start past in
    let ws = drop (length ms) vs in
    let os = unfolded al ws in
    let l = later_after a (place_value a ms vs) os (may_rules a p start past os (unfolded-may a p start past al ws (allowed_may a p start past))) in
    let sums : (i : ℕ) → place_value a (ms ++ map kind al) vs i ≡ (place_value a ms vs i +ℤ total (λ r. place_coefficient a (kind r) i) os) =
    (λ i. omega (arith, ints, combine-split (λ m. place_coefficient a m i) ms (map kind al) vs, unfolded-total (λ m. place_coefficient a m i) kind al ws))
    in
    let each : (i : ℕ) → total (λ r. place_coefficient a (kind r) i) os ≡ total (change_of a i) os =
    (λ i. total-same (λ r. place_coefficient a (kind r) i) (change_of a i) os (λ r. same r i)) in
    record {
      parameters = λ i b. omega (arith, ints, sums i, each i, l.parameters i b);
      shared = λ i low high. omega (arith, ints, sums i, each i, l.shared i low high);
    }

-- the rows of the start say which guards have fallen before it
fallen_start : (a : Automaton) (p : Pattern) (start : ℕ) (vs : List ℕ) → AllHold vs (start_rows a p start) → (j : ℕ) (row : Row) → slice_get a.fall j ≡ Some row
    → has_bit start j ≡ true → RowFails (place_value a (start_meanings a p) vs) row
unfolding start_rows
fallen_start a p start vs h j row at t =
    let ms = start_meanings a p in
    let one = condition_rows a ms a.resilience.comparisons in
    let two = processes_row a ms ∷ opposite (processes_row a ms) ∷ [] in
    let three = condition_rows a ms p.start.comparisons in
    let four = start_guard_rows a ms start 0 a.fall in
    let guards = AllHold-right vs three four (AllHold-right vs two (three ++ four) (AllHold-right vs one (two ++ (three ++ four)) h)) in
    start_fails a ms vs start 0 a.fall guards j row at (ap (has_bit start) (zero-add j) ∙ t)

-- the rows of a Fall say which guards fall
fallen_now : (a : Automaton) (p : Pattern) (start : ℕ) (past : List Element) (before end : List Meaning) (mask : ℕ) (vs : List ℕ)
    → AllHold vs (fall_rows a p start past before end mask) → (j : ℕ) (row : Row) → slice_get a.fall j ≡ Some row → has_bit mask j ≡ true
    → RowFails (place_value a end vs) row
unfolding fall_rows
fallen_now a p start past before end mask vs h j row at t =
    let al = allowed_rules a p start past in
    let pair = singles_row before al ∷ opposite (singles_row before al) ∷ [] in
    let chosen = guard_rows a before (has_bit mask) 0 a.fall in
    let e = counter_rows a p end in
    let n = map negated (guard_rows a end (has_bit mask) 0 a.fall) in
    let s = standing_rows a start (Fall mask ∷ past) end in
    let r1 = AllHold-right vs (counter_rows a p before) (chosen ++ (pair ++ (e ++ (n ++ s)))) h in
    let r2 = AllHold-right vs chosen (pair ++ (e ++ (n ++ s))) r1 in
    let r3 = AllHold-right vs pair (e ++ (n ++ s)) r2 in
    let fails = AllHold-left vs n s (AllHold-right vs e (n ++ s) r3) in
    guard_fails a end vs (has_bit mask) 0 a.fall fails j row at (ap (has_bit mask) (zero-add j) ∙ t)

-- fall guards that are in the start set or have fallen fail at the end of the word
pub fallen_fail : (a : Automaton) (p : Pattern) (start : ℕ) (past : List Element) (vs : List ℕ) → AllHold vs (word_rows a p start past) → (j : ℕ) (row : Row)
    → slice_get a.fall j ≡ Some row → has_fallen start past j ≡ true → RowFails (place_value a (meanings a p start past) vs) row
unfolding word_rows meanings has_fallen
fallen_fail a p start [] vs h j row at t = fallen_start a p start vs h j row at t
fallen_fail a p start (Event e ∷ past) vs h j row at t =
    let ms = meanings a p start past in
    stays_below a (place_value a ms vs) (place_value a (ms ++ counts_after a p start past) vs)
    (later_firings a p start past vs ms (Count (length past)) (λ r i. refl)) j row at
    (fallen_fail a p start past vs (AllHold-left vs (word_rows a p start past) _ h) j row at t)
fallen_fail a p start (Rise i ∷ past) vs h j row at t =
    let ms = meanings a p start past in
    stays_below a (place_value a ms vs) (place_value a (ms ++ counts_after a p start past) vs)
    (later_firings a p start past vs ms (Count (length past)) (λ r i. refl)) j row at
    (fallen_fail a p start past vs (AllHold-left vs (word_rows a p start past) _ h) j row at t)
fallen_fail a p start (Fall mask ∷ past) vs h j row at t = elim (or_cases (has_bit mask j) (has_fallen start past j) t) [
  | inl now ↦ fallen_now a p start past (meanings a p start past ++ counts_after a p start past) (meanings a p start (Fall mask ∷ past)) mask vs
      (AllHold-right vs (word_rows a p start past) _ h) j row at now
  | inr before ↦ (
      let ms = meanings a p start past in
      let ns = ms ++ counts_after a p start past in
      let then = stays_below a (place_value a ms vs) (place_value a ns vs) (later_firings a p start past vs ms (Count (length past)) (λ r i. refl)) j row at
      (fallen_fail a p start past vs (AllHold-left vs (word_rows a p start past) _ h) j row at before) in
      stays_below a (place_value a ns vs) (place_value a (ns ++ singles_after a p start past) vs)
      (later_firings a p start past vs ns (Single (length past)) (λ r i. refl)) j row at then)
]
