-- a word that describes the first steps of a run, and the steps since its last element
--
-- This is what the walk of the reordering keeps (`Reorder`). The values of the word's unknowns solve its rows, and at its last
-- moment they give each place the value that it has in the run. The steps since then are rules that the word allows, so how often
-- each fired are the Counts of the element that comes next, whichever it is. A new element takes these numbers as the values of its
-- unknowns; its rows are read off the present configuration, since sums do not depend on the order of firings.
use Rattle.ta_encode.proofs.Common.{◌≡◌, inl, inr, ℕ, ◌+◌, ◌^◌, ◌<◌, ◌≤◌, pos, ◌+ℤ◌, ◌≤ℤ◌, ◌<ℤ◌, List, [], ◌∷◌, ◌++◌, map, length, eqb, true, false, not, arith}
use Rattle.ta_encode.proofs.Common.{sym, ap, ◌∙◌, refl, subst, slice_get, Some, Option, append_assoc, length-append, zero-add, length-map, ints, eqb-true}
use Rattle.ta_encode.proofs.Common.{or_cases, and_from, not-true, not_from_false, or_parts, slice_get_within, all_below-at, implies-at, value_of, RowHolds, Row}
use Rattle.ta_encode.proofs.Common.{Automaton, terms_value-same, Pattern, Config, value_at, Holds, has_bit, implies, range_with_len, Element, Event, Rise, Fall}
use Rattle.ta_encode.proofs.Common.{has_rise, has_fallen, is_complete, is_due, is_ready, is_standing, LegalUnder, allowed_rules, Meaning, Count, Single}
use Rattle.ta_encode.proofs.Common.{meanings, counts_after, singles_after, place_coefficient, LinearRow, opposite, negated, counter_rows, guard_rows}
use Rattle.ta_encode.proofs.Common.{standing_rows, singles_row, event_rows, rise_rows, happening_rows, fall_rows, word_rows, sum_of_products, row_value}
use Rattle.ta_encode.proofs.Common.{AllHold, total, times_in, EachOnce, total-by_times, Fits, filter}
pub use Rattle.ta_automaton.proofs.Onward.{change_of}
use Rattle.ta_automaton.specs.declared.pattern.Event.{Event as PatternEvent}
use Rattle.ta_encode.proofs.Combine.{combine-append, combine-extra, combine-map, combine-zero, combine-concat, combine-own}
use Rattle.ta_encode.proofs.Moments.{Moment, RowFails, AllHold-append, counters_hold, condition_holds, guards_hold, guards_fail, opposite_value}
use Rattle.ta_words.proofs.Listed.{event_child, rise_child, fall_child}

pub record State (a : Automaton) (p : Pattern) (pairs : List (ℕ × ℕ)) (start : ℕ) (past : List Element) (vs : List ℕ) (fired : List ℕ) (d : Config) : Type 0
  where
    pub legal : LegalUnder a p pairs start past
    pub fits : Fits a d
    pub count : length vs ≡ length (meanings a p start past)
    pub places : (i : ℕ) → (sum_of_products (map (λ m. place_coefficient a m i) (meanings a p start past)) vs +ℤ total (change_of a i) fired) ≡ value_at d i
    pub once : EachOnce fired (allowed_rules a p start past)
    pub solved : (more : List ℕ) → AllHold (vs ++ more) (word_rows a p start past)
    pub fallen : (j : ℕ) (row : Row) → slice_get a.fall j ≡ Some row → has_fallen start past j ≡ true → RowFails (value_at d) row
    pub standing : (j : ℕ) (row : Row) → slice_get a.fall j ≡ Some row → has_fallen start past j ≡ false → RowHolds (value_at d) row

-- the values of the Counts of the next element
abbrev pub counts_of : Automaton → Pattern → ℕ → List Element → List ℕ → List ℕ
counts_of a p start past fired = map (λ r. times_in r fired) (allowed_rules a p start past)

pub closed : (a : Automaton) (p : Pattern) (pairs : List (ℕ × ℕ)) (start : ℕ) (past : List Element) (vs fired : List ℕ) (d : Config)
    → State a p pairs start past vs fired d → Moment a (meanings a p start past ++ counts_after a p start past) (vs ++ counts_of a p start past fired) d
closed a p pairs start past vs fired d s =
    let ms = meanings a p start past in
    let al = allowed_rules a p start past in
    record {
      count = omega (
        arith,
        s.count,
        length-append vs (counts_of a p start past fired),
        length-append ms (counts_after a p start past),
        length-map al
            (λ r. times_in r fired),
        length-map al (Count (length past)),
      );
      places = λ i. omega (
        arith,
        ints,
        combine-append (λ m. place_coefficient a m i) ms (counts_after a p start past) vs (counts_of a p start past fired)
            s.count,
        combine-map (λ m. place_coefficient a m i) (Count (length past)) (λ r. times_in r fired) al,
        total-by_times (change_of a i) al fired s.once,
        s.places i,
      );
    }

old_rows : (vs new more : List ℕ) (rows : List LinearRow) → ((m : List ℕ) → AllHold (vs ++ m) rows) → AllHold ((vs ++ new) ++ more) rows
old_rows vs new more rows h = subst (λ (v : List ℕ). AllHold v rows) (sym (append_assoc vs new more)) (h (new ++ more))

standing_hold : (a : Automaton) (start : ℕ) (past : List Element) (ms : List Meaning) (vs : List ℕ) (d : Config) → Moment a ms vs d → (more : List ℕ)
    → ((j : ℕ) (row : Row) → slice_get a.fall j ≡ Some row → has_fallen start past j ≡ false → RowHolds (value_at d) row)
    → AllHold (vs ++ more) (standing_rows a start past ms)
standing_hold a start past ms vs d m more h =
    guards_hold a ms vs d m more (λ j. not (has_fallen start past j)) 0 a.fall
    (λ j row at t. h j row at (ap (has_fallen start past) (sym (zero-add j)) ∙ not-true _ t))

pub push_rise : (a : Automaton) (p : Pattern) (pairs : List (ℕ × ℕ)) (start : ℕ) (past : List Element) (vs fired : List ℕ) (d : Config)
    → State a p pairs start past vs fired d → (i : ℕ) (row : Row) → is_complete p past ≡ false → is_due pairs past i ≡ true → has_rise past i ≡ false
    → slice_get a.rise i ≡ Some row → RowHolds (value_at d) row → State a p pairs start (Rise i ∷ past) (vs ++ counts_of a p start past fired) [] d
unfolding meanings total word_rows rise_rows has_fallen
push_rise a p pairs start past vs fired d s i row more due new named holds =
    let m = closed a p pairs start past vs fired d s in
    let some : Some row ≡ Some row = refl in
    record {
      legal = (
        rise_child a p pairs start past i more (slice_get_within _ _ _ named)
            (and_from (is_due pairs past i) (not (has_rise past i)) due (not_from_false (has_rise past i) new)),
        s.legal,
      );
      fits = s.fits;
      count = m.count;
      places = λ k. omega (arith, ints, m.places k);
      once = tt;
      solved = λ extra. AllHold-append _ _ _ (old_rows vs (counts_of a p start past fired) extra _ s.solved)
          (AllHold-append _ _ _ (counters_hold a _ _ d m extra _)
          (AllHold-append _ _ _
          (guards_hold a _ _ d m extra (λ k. eqb k i) 0 a.rise (λ j r at t.
          let e : j ≡ i = sym (zero-add j) ∙ eqb-true (0 + j) i t in
          let same : Some r ≡ Some row = sym at ∙ ap (slice_get a.rise) e ∙ named in
          let eq : r ≡ row = cc in
          subst (RowHolds (value_at d)) (sym eq) holds))
          (standing_hold a start past _ _ d m extra s.standing)));
      fallen = s.fallen;
      standing = s.standing;
    }

pub push_event : (a : Automaton) (p : Pattern) (pairs : List (ℕ × ℕ)) (start : ℕ) (past : List Element) (vs fired : List ℕ) (d : Config)
    → State a p pairs start past vs fired d → (e : ℕ) (event : PatternEvent) → is_complete p past ≡ false → is_ready p past e ≡ true
    → slice_get p.events e ≡ Some event → Holds event.condition d → State a p pairs start (Event e ∷ past) (vs ++ counts_of a p start past fired) [] d
unfolding meanings total word_rows happening_rows has_fallen
push_event a p pairs start past vs fired d s e event more ready named holds =
    let m = closed a p pairs start past vs fired d s in
    record {
      legal = (event_child a p pairs start past e more (slice_get_within _ _ _ named) ready, s.legal);
      fits = s.fits;
      count = m.count;
      places = λ k. omega (arith, ints, m.places k);
      once = tt;
      solved = λ extra. AllHold-append _ _ _ (old_rows vs (counts_of a p start past fired) extra _ s.solved)
          (AllHold-append _ _ _ (counters_hold a _ _ d m extra _)
          (AllHold-append _ _ _
          (subst (λ (o : Option PatternEvent). AllHold ((vs ++ counts_of a p start past fired) ++ extra)
          (event_rows a (meanings a p start past ++ counts_after a p start past) o)) (sym named)
          (condition_holds a _ _ d m extra event.condition.comparisons holds))
          (standing_hold a start past _ _ d m extra s.standing)));
      fallen = s.fallen;
      standing = s.standing;
    }

-- a step that turns the fall guards of a mask false
pub record Falls (a : Automaton) (start : ℕ) (past : List Element) (mask : ℕ) (d : Config) : Type 0 where
  pub fails : (j : ℕ) (row : Row) → slice_get a.fall j ≡ Some row → has_bit mask j ≡ true → RowFails (value_at d) row
  pub stays : (j : ℕ) (row : Row) → slice_get a.fall j ≡ Some row → has_fallen start past j ≡ true → RowFails (value_at d) row
  pub rest : (j : ℕ) (row : Row) → slice_get a.fall j ≡ Some row → has_bit mask j ≡ false → has_fallen start past j ≡ false → RowHolds (value_at d) row

single_sum : (before : List Meaning) (al : List ℕ) (vs extra : List ℕ) (r : ℕ) → length vs ≡ length before → times_in r al ≡ 1
    → row_value ((vs ++ map (λ x. times_in x (r ∷ [])) al) ++ extra) (singles_row before al) ≡ pos 0
unfolding total
single_sum before al vs extra r e one =
    let t : ℕ → ℕ = λ x. times_in x (r ∷ []) in
    let zeros : length vs ≡ length (map (λ (m : Meaning). pos 0) before) = e ∙ sym (length-map before (λ m. pos 0)) in
    let own = total-by_times (λ x. pos 1) al (r ∷ []) (one, tt) in
    let sums = combine-concat (map (λ (m : Meaning). pos 0) before) (map (λ (x : ℕ). pos 1) al) vs (map t al ++ extra) zeros in
    let inner = combine-extra (λ (x : ℕ). pos 1) al (map t al) extra (length-map al t) in
    rw (append_assoc vs (map t al) extra) (omega (arith, ints, sums, inner, combine-zero before vs, combine-own (λ (x : ℕ). pos 1) t al, own))

pub push_fall : (a : Automaton) (p : Pattern) (pairs : List (ℕ × ℕ)) (start : ℕ) (past : List Element) (vs fired : List ℕ) (d : Config)
    → State a p pairs start past vs fired d → (r : ℕ) (next : Config) (mask : ℕ) → is_complete p past ≡ false → 1 ≤ mask → mask < 2 ^ length a.fall
    → is_standing a start past mask ≡ true → times_in r (allowed_rules a p start past) ≡ 1 → Fits a next
    → ((i : ℕ) → value_at next i ≡ (value_at d i +ℤ change_of a i r)) → Falls a start past mask next
    → State a p pairs start (Fall mask ∷ past) ((vs ++ counts_of a p start past fired) ++ counts_of a p start past (r ∷ [])) [] next
unfolding meanings total word_rows fall_rows has_fallen
push_fall a p pairs start past vs fired d s r next mask more low high stands one fits moved falls =
    let m = closed a p pairs start past vs fired d s in
    let al = allowed_rules a p start past in
    let n = length past in
    let before = meanings a p start past ++ counts_after a p start past in
    let ws = vs ++ counts_of a p start past fired in
    let end : Moment a (before ++ singles_after a p start past) (ws ++ counts_of a p start past (r ∷ [])) next = record {
      count = omega (
        arith,
        m.count,
        length-append ws (counts_of a p start past (r ∷ [])),
        length-append before (singles_after a p start past),
        length-map al
            (λ x. times_in x (r ∷ [])),
        length-map al (Single n),
      );
      places = λ i. omega (
        arith,
        ints,
        combine-append (λ k. place_coefficient a k i) before (singles_after a p start past) ws
            (counts_of a p start past (r ∷ [])) m.count,
        combine-map (λ k. place_coefficient a k i) (Single n) (λ x. times_in x (r ∷ [])) al,
        total-by_times
            (change_of a i) al (r ∷ []) (one, tt),
        m.places i,
        moved i,
      );
    } in
    let stand : (j : ℕ) (row : Row) → slice_get a.fall j ≡ Some row → has_fallen start (Fall mask ∷ past) j ≡ false
    → RowHolds (value_at next) row = (λ j row at f. let q = or_parts (has_bit mask j) (has_fallen start past j) f in falls.rest j row at q.0 q.1) in
    record {
      legal = (fall_child a p pairs start past mask more low high stands, s.legal);
      fits = fits;
      count = end.count;
      places = λ k. omega (arith, ints, end.places k);
      once = tt;
      solved = λ extra.
          let value = single_sum before al ws extra r m.count one in
          let at_before : (rows : List LinearRow) → ((e : List ℕ) → AllHold (ws ++ e) rows)
          → AllHold ((ws ++ counts_of a p start past (r ∷ [])) ++ extra) rows = (λ rows h. old_rows ws (counts_of a p start past (r ∷ [])) extra rows h) in
          let pair : AllHold ((ws ++ counts_of a p start past (r ∷ [])) ++ extra) (singles_row before al ∷ opposite (singles_row before al) ∷ []) = (
            omega (arith, ints, value),
            (
              omega
                  (arith, ints, value, opposite_value ((ws ++ counts_of a p start past (r ∷ [])) ++ extra) (singles_row before al)),
              tt,
            ),
          ) in
          let ends = before ++ singles_after a p start past in
          let v = (ws ++ counts_of a p start past (r ∷ [])) ++ extra in
          let early : AllHold v (counter_rows a p before) = at_before (counter_rows a p before)
          (λ e. counters_hold a before ws d m e (filter (λ l. not (has_bit p.empty l)) (range_with_len 0 (length a.locations)))) in
          let chosen : AllHold v (guard_rows a before (has_bit mask) 0 a.fall) = at_before (guard_rows a before (has_bit mask) 0 a.fall)
          (λ e. guards_hold a before ws d m e (has_bit mask) 0 a.fall
          (λ j row at t. s.standing j row at
          (not-true (has_fallen start past j)
          (implies-at (has_bit mask j) (not (has_fallen start past j))
          (all_below-at (length a.fall) (λ k. implies (has_bit mask k) (not (has_fallen start past k))) stands j (slice_get_within a.fall j row at))
          (ap (has_bit mask) (sym (zero-add j)) ∙ t))))) in
          let late : AllHold v (counter_rows a p ends) = counters_hold a ends (ws ++ counts_of a p start past (r ∷ [])) next end extra
          (filter (λ l. not (has_bit p.empty l)) (range_with_len 0 (length a.locations))) in
          let gone : AllHold v (map negated (guard_rows a ends (has_bit mask) 0 a.fall)) = guards_fail a ends (ws ++ counts_of a p start past (r ∷ [])) next end
          extra (has_bit mask) 0 a.fall (λ j row at t. falls.fails j row at (ap (has_bit mask) (sym (zero-add j)) ∙ t)) in
          let left : AllHold v (standing_rows a start (Fall mask ∷ past) ends) = standing_hold a start (Fall mask ∷ past) ends
          (ws ++ counts_of a p start past (r ∷ [])) next end extra stand in
          let old : AllHold v (word_rows a p start past) = at_before (word_rows a p start past)
          (λ e. old_rows vs (counts_of a p start past fired) e (word_rows a p start past) s.solved) in
          let five = AllHold-append v (map negated (guard_rows a ends (has_bit mask) 0 a.fall)) (standing_rows a start (Fall mask ∷ past) ends) gone left in
          let four = AllHold-append v (counter_rows a p ends)
          (map negated (guard_rows a ends (has_bit mask) 0 a.fall) ++ standing_rows a start (Fall mask ∷ past) ends) late five in
          let three = AllHold-append v (singles_row before al ∷ opposite (singles_row before al) ∷ [])
          (counter_rows a p ends ++ (map negated (guard_rows a ends (has_bit mask) 0 a.fall) ++ standing_rows a start (Fall mask ∷ past) ends)) pair four in
          let two = AllHold-append v (guard_rows a before (has_bit mask) 0 a.fall)
          ((singles_row before al ∷ opposite (singles_row before al) ∷ [])
          ++ (counter_rows a p ends ++ (map negated (guard_rows a ends (has_bit mask) 0 a.fall) ++ standing_rows a start (Fall mask ∷ past) ends))) chosen
          three in
          AllHold-append v (word_rows a p start past) (fall_rows a p start past before ends mask) old
          (AllHold-append v (counter_rows a p before)
          (guard_rows a before (has_bit mask) 0 a.fall
          ++ ((singles_row before al ∷ opposite (singles_row before al) ∷ [])
          ++ (counter_rows a p ends ++ (map negated (guard_rows a ends (has_bit mask) 0 a.fall) ++ standing_rows a start (Fall mask ∷ past) ends)))) early
          two);
      fallen = λ j row at f. elim (or_cases (has_bit mask j) (has_fallen start past j) f) [ inl h ↦ falls.fails j row at h | inr h ↦ falls.stays j row at h ];
      standing = stand;
    }

-- a step that turns no guard false
pub add_step : (a : Automaton) (p : Pattern) (pairs : List (ℕ × ℕ)) (start : ℕ) (past : List Element) (vs fired : List ℕ) (d : Config)
    → State a p pairs start past vs fired d → (r : ℕ) (next : Config) → times_in r (allowed_rules a p start past) ≡ 1 → Fits a next
    → ((i : ℕ) → value_at next i ≡ (value_at d i +ℤ change_of a i r))
    → ((j : ℕ) (row : Row) → slice_get a.fall j ≡ Some row → (has_fallen start past j ≡ true → RowFails (value_at next) row)
    × (has_fallen start past j ≡ false → RowHolds (value_at next) row)) → State a p pairs start past vs (r ∷ fired) next
unfolding total
add_step a p pairs start past vs fired d s r next one fits moved guards = record {
  legal = s.legal;
  fits = fits;
  count = s.count;
  places = λ i. omega (arith, ints, s.places i, moved i);
  once = (one, s.once);
  solved = s.solved;
  fallen = λ j row at f. (guards j row at).0 f;
  standing = λ j row at f. (guards j row at).1 f;
}

-- a step that changes no value
pub skip_step : (a : Automaton) (p : Pattern) (pairs : List (ℕ × ℕ)) (start : ℕ) (past : List Element) (vs fired : List ℕ) (d : Config)
    → State a p pairs start past vs fired d → (next : Config) → Fits a next → ((i : ℕ) → value_at next i ≡ value_at d i)
    → State a p pairs start past vs fired next
skip_step a p pairs start past vs fired d s next fits same = record {
  legal = s.legal;
  fits = fits;
  count = s.count;
  places = λ i. s.places i ∙ sym (same i);
  once = s.once;
  solved = s.solved;
  fallen = λ j row at f. let h : value_of (value_at d) row.form <ℤ pos 0 = s.fallen j row at f in omega
      (arith, ints, h, terms_value-same row.form.terms (value_at next) (value_at d) same);
  standing = λ j row at f. let h : pos 0 ≤ℤ value_of (value_at d) row.form = s.standing j row at f in omega
      (arith, ints, h, terms_value-same row.form.terms (value_at next) (value_at d) same);
}
