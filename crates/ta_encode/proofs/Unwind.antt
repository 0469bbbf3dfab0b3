-- the run of a word's solution, element by element
--
-- What is kept is a run whose last configuration has the values that the solution gives at the last element, and the positions of
-- the events so far. The Counts of the next element are fired in an order that goes forward (`Segment`). Then a Rise changes
-- nothing, an Event happens in the configuration that has been reached, and a Fall fires the one rule whose Single is 1.
use Rattle.ta_encode.proofs.Common.{◌≡◌, ◌≢◌, ◌⊎◌, inl, inr, ℕ, ◌+◌, ◌<◌, ◌≤◌, pos, ◌+ℤ◌, ◌≤ℤ◌, List, [], ◌∷◌, ◌++◌, map, length, drop, eqb, cond, true, false}
use Rattle.ta_encode.proofs.Common.{not, ◌||◌, arith, sym, ap, ◌∙◌, refl, subst, slice_get, get_or, Some, Option, IsBitSet, zero-add, append_assoc, ints}
use Rattle.ta_encode.proofs.Common.{false≢true, cases_Bool, and_parts, eqb-true, or_cases, not-true, not_from_false, or_right, nat_tests, eqb_tells}
use Rattle.ta_encode.proofs.Common.{all_below-at, bit_true, implies-at, cond_same, cond_apart, value_of, RowHolds, Row, Rule, Automaton, terms_value-same}
use Rattle.ta_encode.proofs.Common.{Pattern, Config, value_at, Holds, has_bit, implies, In, Element, Event, Rise, Fall, has_event, has_rise, has_fallen}
use Rattle.ta_encode.proofs.Common.{follows, children, LegalWord, allowed_rules, may_fire, one_if, location_place, Meaning, Single, meanings, counts_after}
use Rattle.ta_encode.proofs.Common.{singles_after, place_coefficient, opposite, negated, counter_rows, guard_rows, standing_rows, singles_row, event_rows}
use Rattle.ta_encode.proofs.Common.{rise_rows, happening_rows, fall_rows, word_rows, AllHold, total, value_at-location, one_if-ne, from_within, Whole}
use Rattle.ta_encode.proofs.Common.{fits_whole, Trail, FiresBefore, FiresFall, WordFires, steps_of, position_in, later_after, change_location, fall_back}
use Rattle.ta_encode.proofs.Common.{rise_on, falls as falls_rows, rises as rises_rows}
use Rattle.ta_encode.proofs.Moments.{AllHold-left}
use Rattle.ta_automaton.specs.declared.pattern.Event.{Event as PatternEvent}
use Rattle.ta_encode.proofs.State.{change_of}
use Rattle.ta_encode.proofs.Switch.{KeptEmpty}
use Rattle.ta_encode.proofs.Forward.{onward_of}
use Rattle.ta_encode.proofs.Singles.{one_single, only_single}
use Rattle.ta_encode.proofs.Segment.{Segment, Fired, EachMay, may_rules, fire_all, fire_last, may_parts}
use Rattle.ta_encode.proofs.Values.{place_value, counter_natural, guard_holds, condition_back, AllHold-right, combine-split, unfolded, unfolded-total}
use Rattle.ta_encode.proofs.Values.{unfolded-may, allowed_may, event_ready}

-- the run of some firings for a word, whose end has the values of a moment, and the events' positions in it
pub record At (a : Automaton) (p : Pattern) (start : ℕ) (past : List Element) (vs : List ℕ) (ms : List Meaning) (first : Config) (rules : List ℕ)
    (position : ℕ → ℕ) : Type 0 where
  pub config : Config
  pub trail : Trail a (KeptEmpty p) first config
  pub is : trail.rules ≡ rules
  pub whole : Whole a config
  pub values : (i : ℕ) → value_at config i ≡ place_value a ms vs i
  pub rises : (i : ℕ) (row : Row) → slice_get a.rise i ≡ Some row → has_rise past i ≡ true → RowHolds (value_at config) row
  pub happened : (e : ℕ) (event : PatternEvent) → has_event past e ≡ true → slice_get p.events e ≡ Some event → (c : Config)
      × (slice_get (first ∷ trail.later) (position e) ≡ Some c) × Holds event.condition c
  pub bounded : (e : ℕ) → has_event past e ≡ true → position e ≤ length trail.rules
  pub ordered : (e f : ℕ) (event : PatternEvent) → has_event past e ≡ true → slice_get p.events e ≡ Some event → IsBitSet event.after f → f < length p.events
      → (has_event past f ≡ true) × (position f ≤ position e)

-- the run goes on to another moment
go_on : (a : Automaton) (p : Pattern) (start : ℕ) (past : List Element) (vs : List ℕ) (ms : List Meaning) (first : Config) (rules : List ℕ) (position : ℕ → ℕ)
    → (t : At a p start past vs ms first rules position) → (os : List ℕ) → EachMay a p start past os → (f : Fired a p first t.config t.trail os)
    → (ns : List Meaning) → ((i : ℕ) → (place_value a ms vs i +ℤ total (change_of a i) os) ≡ place_value a ns vs i)
    → At a p start past vs ns first (rules ++ os) position
go_on a p start past vs ms first rules position t os may f ns same = record {
  config = f.end;
  trail = f.trail;
  is = f.is ∙ ap (λ (xs : List ℕ). xs ++ os) t.is;
  whole = f.whole;
  values = λ i. omega (arith, ints, f.values i, t.values i, same i);
  rises = λ i row at h.
      let was : pos 0 ≤ℤ value_of (value_at t.config) row.form = t.rises i row at h in
      omega (
        arith,
        ints,
        was,
        rise_on a (value_at t.config) (λ k. value_at t.config k +ℤ total (change_of a k) os)
            (later_after a (value_at t.config) os (may_rules a p start past os may)) row.form.terms (rises_rows a i row at),
        terms_value-same row.form.terms
            (value_at f.end) (λ k. value_at t.config k +ℤ total (change_of a k) os) f.values,
      );
  happened = λ e event h at. let w = t.happened e event h at in (w.0, f.grows.kept (position e) w.0 w.1, w.2);
  bounded = λ e h. omega (arith, t.bounded e h, f.grows.longer);
  ordered = t.ordered;
}

counts_move : (a : Automaton) (p : Pattern) (start : ℕ) (past : List Element) (vs os : List ℕ) → FiresBefore a p start past vs os → (i : ℕ)
    → (place_value a (meanings a p start past) vs i +ℤ total (change_of a i) os) ≡ place_value a (meanings a p start past ++ counts_after a p start past) vs i
counts_move a p start past vs os w i =
    omega (arith, ints, combine-split (λ m. place_coefficient a m i) (meanings a p start past) (counts_after a p start past) vs, w.adds i)

singles_move : (a : Automaton) (p : Pattern) (start : ℕ) (past : List Element) (vs : List ℕ) (ms : List Meaning) (i : ℕ)
    → (place_value a ms vs i +ℤ total (change_of a i) (unfolded (allowed_rules a p start past) (drop (length ms) vs))) ≡ place_value a
    (ms ++ singles_after a p start past) vs i
singles_move a p start past vs ms i =
    omega (
      arith,
      ints,
      combine-split (λ m. place_coefficient a m i) ms (singles_after a p start past) vs,
      unfolded-total (λ m. place_coefficient a m i)
          (Single (length past)) (allowed_rules a p start past) (drop (length ms) vs),
    )

trail_empty : (a : Automaton) (p : Pattern) (first d : Config) (t : Trail a (KeptEmpty p) first d) → KeptEmpty p d
trail_empty a p first d t = t.all_good (length t.rules) d t.last

-- the Counts of an element
do_counts : (a : Automaton) (p : Pattern) (start : ℕ) (past : List Element) (vs : List ℕ) (first : Config) (rules : List ℕ) (position : ℕ → ℕ) (os : List ℕ)
    → FiresBefore a p start past vs os → At a p start past vs (meanings a p start past) first rules position
    → AllHold vs (counter_rows a p (meanings a p start past ++ counts_after a p start past))
    → ((j : ℕ) (row : Row) → slice_get a.fall j ≡ Some row → has_fallen start past j ≡ false
    → pos 0 ≤ℤ value_of (place_value a (meanings a p start past ++ counts_after a p start past) vs) row.form)
    → At a p start past vs (meanings a p start past ++ counts_after a p start past) first (rules ++ os) position
do_counts a p start past vs first rules position os w t counters falls =
    let ms = meanings a p start past in
    let moves = counts_move a p start past vs os w in
    let same : (i : ℕ) → (value_at t.config i +ℤ total (change_of a i) os) ≡ place_value a (ms ++ counts_after a p start past) vs i =
    (λ i. omega (arith, ints, t.values i, moves i)) in
    let s : Segment a p start past t.config os = record {
      whole = t.whole;
      may = w.allowed;
      onward = onward_of a os w.forward;
      rises = t.rises;
      falls = λ j row at f. omega (
        arith,
        ints,
        falls j row at f,
        terms_value-same row.form.terms (λ i. value_at t.config i +ℤ total (change_of a i) os)
            (place_value a (ms ++ counts_after a p start past) vs) same,
      );
      ends = λ l b e. omega (arith, ints, same (location_place a l), counter_natural a p (ms ++ counts_after a p start past) vs counters l b e);
      empty = trail_empty a p first t.config t.trail;
    } in
    go_on a p start past vs ms first rules position t os w.allowed (fire_all a p start past first os t.config t.trail s) (ms ++ counts_after a p start past)
    moves

stand : (a : Automaton) (start : ℕ) (past : List Element) (ms : List Meaning) (vs : List ℕ) → AllHold vs (standing_rows a start past ms) → (j : ℕ) (row : Row)
    → slice_get a.fall j ≡ Some row → has_fallen start past j ≡ false → pos 0 ≤ℤ value_of (place_value a ms vs) row.form
stand a start past ms vs h j row at f =
    guard_holds a ms vs (λ k. not (has_fallen start past k)) 0 a.fall h j row at (not_from_false _ (ap (has_fallen start past) (zero-add j) ∙ f))

do_rise : (a : Automaton) (p : Pattern) (start : ℕ) (past : List Element) (vs : List ℕ) (first : Config) (rules : List ℕ) (position : ℕ → ℕ) (os : List ℕ)
    (i : ℕ) → FiresBefore a p start past vs os → At a p start past vs (meanings a p start past) first rules position
    → AllHold vs (rise_rows a p start past (meanings a p start (Rise i ∷ past)) i)
    → At a p start (Rise i ∷ past) vs (meanings a p start (Rise i ∷ past)) first (rules ++ os) position
unfolding meanings rise_rows has_rise has_event
do_rise a p start past vs first earlier position os i w t h =
    let ms = meanings a p start past ++ counts_after a p start past in
    let counters = AllHold-left vs (counter_rows a p ms) (guard_rows a ms (λ k. eqb k i) 0 a.rise ++ standing_rows a start past ms) h in
    let others = AllHold-right vs (counter_rows a p ms) (guard_rows a ms (λ k. eqb k i) 0 a.rise ++ standing_rows a start past ms) h in
    let guard = AllHold-left vs (guard_rows a ms (λ k. eqb k i) 0 a.rise) (standing_rows a start past ms) others in
    let standing = AllHold-right vs (guard_rows a ms (λ k. eqb k i) 0 a.rise) (standing_rows a start past ms) others in
    let u = do_counts a p start past vs first earlier position os w t counters (stand a start past ms vs standing) in
    record {
      config = u.config;
      trail = u.trail;
      is = u.is;
      whole = u.whole;
      values = u.values;
      rises = λ k row at f. elim (or_cases (eqb i k) (has_rise past k) f) [
        | inl e ↦ (
            let test : eqb (0 + k) i ≡ true = (let s : i ≡ k = eqb-true i k e in grind (arith, nat_tests)) in
            omega (
              arith,
              ints,
              guard_holds a ms vs (λ x. eqb x i) 0 a.rise guard k row at test,
              terms_value-same row.form.terms (value_at u.config)
                  (place_value a ms vs) u.values,
            ))
        | inr g ↦ u.rises k row at g
      ];
      happened = u.happened;
      bounded = u.bounded;
      ordered = u.ordered;
    }

do_event : (a : Automaton) (p : Pattern) (start : ℕ) (past : List Element) (vs : List ℕ) (first : Config) (earlier : List ℕ) (position : ℕ → ℕ) (os : List ℕ)
    (e : ℕ) → FiresBefore a p start past vs os → In (Event e) (children a p [] start past)
    → At a p start past vs (meanings a p start past) first earlier position → AllHold vs (happening_rows a p start past (meanings a p start (Event e ∷ past)) e)
    → At a p start (Event e ∷ past) vs (meanings a p start (Event e ∷ past)) first (earlier ++ os) (λ x. cond (eqb x e) (length (earlier ++ os)) (position x))
unfolding meanings happening_rows has_rise has_event
do_event a p start past vs first earlier position os e w child t h =
    let ms = meanings a p start past ++ counts_after a p start past in
    let rows = event_rows a ms (slice_get p.events e) in
    let counters = AllHold-left vs (counter_rows a p ms) (rows ++ standing_rows a start past ms) h in
    let others = AllHold-right vs (counter_rows a p ms) (rows ++ standing_rows a start past ms) h in
    let mine = AllHold-left vs rows (standing_rows a start past ms) others in
    let standing = AllHold-right vs rows (standing_rows a start past ms) others in
    let u = do_counts a p start past vs first earlier position os w t counters (stand a start past ms vs standing) in
    let n = length (earlier ++ os) in
    let all : length u.trail.rules ≡ n = ap (λ (xs : List ℕ). length xs) u.is in
    let ready = and_parts (not (has_event past e)) (follows p past (slice_get p.events e)) (event_ready a p [] start past e child) in
    let new = not-true (has_event past e) ready.0 in
    let place : ℕ → ℕ = (λ x. cond (eqb x e) n (position x)) in
    let old_not : (x : ℕ) → has_event past x ≡ true → x ≢ e = (λ x y q. false≢true (sym new ∙ ap (has_event past) (sym q) ∙ y)) in
    let old_or : (x : ℕ) → has_event (Event e ∷ past) x ≡ true → (x ≡ e)
    ⊎ (has_event past x ≡ true) = (λ x y. elim (or_cases (eqb e x) (has_event past x) y) [ inl q ↦ inl (sym (eqb-true e x q)) | inr q ↦ inr q ]) in
    record {
      config = u.config;
      trail = u.trail;
      is = u.is;
      whole = u.whole;
      values = u.values;
      rises = u.rises;
      happened = λ x event y at. elim (old_or x y) [
        | inl q ↦ (
          u.config,
          subst (λ (k : ℕ). slice_get (first ∷ u.trail.later) k ≡ Some u.config) {y = place x} (all ∙ sym {a = place x} (cond_same x e n (position x) q))
              u.trail.last,
          condition_back a ms vs u.config u.values event.condition.comparisons
              (subst (λ (o : Option PatternEvent). AllHold vs (event_rows a ms o)) (ap (slice_get p.events) (sym q) ∙ at) mine),
        )
        | inr q ↦ (let v = u.happened x event q at in (
          v.0,
          subst (λ (k : ℕ). slice_get (first ∷ u.trail.later) k ≡ Some v.0) {y = place x}
              (sym {a = place x} (cond_apart x e n (position x) (old_not x q))) v.1,
          v.2,
        ))
      ];
      bounded = λ x y. elim (old_or x y) [
        | inl q ↦ omega (arith, all, cond_same x e n (position x) q)
        | inr q ↦ omega (arith, cond_apart x e n (position x) (old_not x q), u.bounded x q)
      ];
      ordered = λ x f event y at set b. elim (old_or x y) [
        | inl q ↦ (
            let done : has_event past f ≡ true = implies-at (has_bit event.after f) (has_event past f)
            (all_below-at (length p.events) (λ k. implies (has_bit event.after k) (has_event past k))
            (ap (follows p past) (sym at ∙ ap (slice_get p.events) q) ∙ ready.1) f b) (bit_true event.after f set) in (
              or_right (eqb e f) (has_event past f) done,
              omega
                  (arith, cond_same x e n (position x) q, cond_apart f e n (position f) (old_not f done), all, u.bounded f done),
            ))
        | inr q ↦ (
            let v = u.ordered x f event q at set b in (
              or_right (eqb e f) (has_event past f) v.0,
              (let z = v.1 in omega (arith, cond_apart x e n (position x) (old_not x q), cond_apart f e n (position f) (old_not f v.0))),
            ))
      ];
    }

do_fall : (a : Automaton) (p : Pattern) (start : ℕ) (past : List Element) (vs : List ℕ) (first : Config) (earlier : List ℕ) (position : ℕ → ℕ) (both : List ℕ)
    (mask : ℕ) → FiresFall a p start past mask vs both → At a p start past vs (meanings a p start past) first earlier position
    → AllHold vs (fall_rows a p start past (meanings a p start past ++ counts_after a p start past) (meanings a p start (Fall mask ∷ past)) mask)
    → At a p start (Fall mask ∷ past) vs (meanings a p start (Fall mask ∷ past)) first (earlier ++ both) position
unfolding meanings fall_rows has_rise has_event has_fallen total
do_fall a p start past vs first earlier position both mask w t h =
    let al = allowed_rules a p start past in
    let before = meanings a p start past ++ counts_after a p start past in
    let end = before ++ singles_after a p start past in
    let e = counter_rows a p end in
    let n = map negated (guard_rows a end (has_bit mask) 0 a.fall) in
    let s = standing_rows a start (Fall mask ∷ past) end in
    let pair = singles_row before al ∷ opposite (singles_row before al) ∷ [] in
    let chosen = guard_rows a before (has_bit mask) 0 a.fall in
    let h1 = AllHold-left vs (counter_rows a p before) (chosen ++ (pair ++ (e ++ (n ++ s)))) h in
    let r1 = AllHold-right vs (counter_rows a p before) (chosen ++ (pair ++ (e ++ (n ++ s)))) h in
    let h2 = AllHold-left vs chosen (pair ++ (e ++ (n ++ s))) r1 in
    let r2 = AllHold-right vs chosen (pair ++ (e ++ (n ++ s))) r1 in
    let h3 = AllHold-left vs pair (e ++ (n ++ s)) r2 in
    let r3 = AllHold-right vs pair (e ++ (n ++ s)) r2 in
    let h4 = AllHold-left vs e (n ++ s) r3 in
    let h5 = AllHold-right vs n s (AllHold-right vs e (n ++ s) r3) in
    let os = unfolded al (drop (length before) vs) in
    let may : EachMay a p start past os = unfolded-may a p start past al (drop (length before) vs) (allowed_may a p start past) in
    let falls : (j : ℕ) (row : Row) → slice_get a.fall j ≡ Some row → has_fallen start past j ≡ false
    → pos 0 ≤ℤ value_of (place_value a before vs) row.form = (λ j row at f. elim (cases_Bool (has_bit mask j)) [
      | inl b ↦ guard_holds a before vs (has_bit mask) 0 a.fall h2 j row at (ap (has_bit mask) (zero-add j) ∙ b)
      | inr b ↦ (
          let neither : (has_bit mask j || has_fallen start past j) ≡ false = ap (λ x. x || has_fallen start past j) b ∙ f in
          omega (
            arith,
            ints,
            stand a start (Fall mask ∷ past) end vs h5 j row at neither,
            terms_value-same row.form.terms (λ i. place_value a before vs i +ℤ total (change_of a i) os) (place_value a end vs)
                (singles_move a p start past vs before),
            fall_back a (place_value a before vs) (λ i. place_value a before vs i +ℤ total (change_of a i) os)
                (later_after a (place_value a before vs) os (may_rules a p start past os may)) row.form.terms (falls_rows a j row at),
          ))
    ]) in
    let u = do_counts a p start past vs first earlier position w.front w.fires t h1 falls in
    let r = w.last in
    let one : os ≡ r ∷ [] = only_single a p start past mask vs r w.single (one_single before al vs h3) in
    let can : may_fire a p start past (slice_get a.rules r) ≡ true = (subst (EachMay a p start past) one may).0 in
    let moves : (i : ℕ) → (place_value a before vs i +ℤ total (change_of a i) (r ∷ [])) ≡ place_value a end vs i =
    (λ i. ap (λ (xs : List ℕ). place_value a before vs i +ℤ total (change_of a i) xs) (sym one) ∙ singles_move a p start past vs before i) in
    let fits = fits_whole a u.config u.whole in
    let some : (rule : Rule) → slice_get a.rules r ≡ Some rule → 1 ≤ get_or u.config.counters rule.from 0 = (λ rule named.
    let m = may_parts a p start past rule (ap (may_fire a p start past) (sym named) ∙ can) in
    let b = from_within a r rule named in
    let l = rule.from in
    let natural_end = counter_natural a p end vs h4 l b m.from in
    let mine : one_if rule.from l ≡ pos 1 = elim (eqb_tells l l) [ inl q ↦ rw q.0 refl | inr ne ↦ absurd (ne.1 refl) ] in
    let none : one_if rule.to l ≡ pos 0 = one_if-ne rule.to l (λ q. m.apart (sym q)) in
    omega (
      arith,
      ints,
      natural_end,
      mine,
      none,
      moves (location_place a l),
      u.values (location_place a l),
      change_location a l r rule named,
      value_at-location
          a u.config l fits,
    )) in
    let holds : (j : ℕ) (row : Row) → slice_get a.fall j ≡ Some row → has_fallen start past j ≡ false
    → RowHolds (value_at u.config) row =
    (λ j row at f. omega (arith, ints, falls j row at f, terms_value-same row.form.terms (value_at u.config) (place_value a before vs) u.values)) in
    let f = fire_last a p start past first u.config u.trail r u.whole can u.rises holds (trail_empty a p first u.config u.trail) some in
    let v = go_on a p start past vs before first (earlier ++ w.front) position u (r ∷ []) (can, tt) f end moves in
    record {
      config = v.config;
      trail = v.trail;
      is = v.is ∙ append_assoc earlier w.front (r ∷ []) ∙ ap (λ (xs : List ℕ). earlier ++ xs) (sym w.cut);
      whole = v.whole;
      values = v.values;
      rises = v.rises;
      happened = v.happened;
      bounded = v.bounded;
      ordered = v.ordered;
    }

-- the run of a legal word with a solution
pub unwind : (a : Automaton) (p : Pattern) (start : ℕ) (past : List Element) (vs : List ℕ) (first : Config) (firings : List (List ℕ))
    → WordFires a p start past vs firings → At a p start [] vs (meanings a p start []) first [] (λ e. 0) → LegalWord a p start past
    → AllHold vs (word_rows a p start past) → At a p start past vs (meanings a p start past) first (steps_of firings) (position_in past firings)
unfolding word_rows
unwind a p start [] vs first [] w begin legal h = begin
unwind a p start [] vs first (os ∷ older) w begin legal h = absurd w
unwind a p start (e ∷ past) vs first [] w begin legal h = absurd w
unwind a p start (Event e ∷ past) vs first (os ∷ older) w begin legal h =
    do_event a p start past vs first (steps_of older) (position_in past older) os e w.0 legal.0
    (unwind a p start past vs first older w.1 begin legal.1 (AllHold-left vs (word_rows a p start past) _ h))
    (AllHold-right vs (word_rows a p start past) _ h)
unwind a p start (Rise i ∷ past) vs first (os ∷ older) w begin legal h =
    do_rise a p start past vs first (steps_of older) (position_in past older) os i w.0
    (unwind a p start past vs first older w.1 begin legal.1 (AllHold-left vs (word_rows a p start past) _ h))
    (AllHold-right vs (word_rows a p start past) _ h)
unwind a p start (Fall mask ∷ past) vs first (os ∷ older) w begin legal h =
    do_fall a p start past vs first (steps_of older) (position_in past older) os mask w.0
    (unwind a p start past vs first older w.1 begin legal.1 (AllHold-left vs (word_rows a p start past) _ h))
    (AllHold-right vs (word_rows a p start past) _ h)
