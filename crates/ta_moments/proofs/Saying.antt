-- what the facts of a node say at natural values that meet its rows
use Rattle.ta_moments.proofs.Common.{◌≡◌, inl, inr, ℕ, ◌+◌, ◌-◌, ◌<◌, ◌≤◌, pos, ◌+ℤ◌, ◌-ℤ◌, ◌≤ℤ◌, ◌<ℤ◌, List, [], ◌∷◌, map, length, slice_get, Some, Option}
use Rattle.ta_moments.proofs.Common.{Bool, true, false, ◌&&◌, cond, arith, sym, ap, ◌∙◌, refl, subst, ints, and_parts, false≢true, In, in_filter, Automaton}
use Rattle.ta_moments.proofs.Common.{Pattern, Row, Rule, has_bit, location_place, number_form, minus_form, opposite_form, negated_form, sum_form, has_guard}
use Rattle.ta_moments.proofs.Common.{moving_rules, needing, sparing, Vector, Moment, Point, Pair, early, late, Known, nothing_fired, place_form, form_at}
use Rattle.ta_moments.proofs.Common.{counters_at, guard_at, guards, quiet_at, source_at, below, with_fact, first_vector, step_vector, before_vector}
use Rattle.ta_moments.proofs.Common.{after_vector, steps_less_one, rows_of_first, rows_of_last, rows_of_order, rows_of_same, answers, unsigned_abs, get_end}
use Rattle.ta_moments.proofs.Common.{is_pair, are_pairs, AtMost, SameStep, quiet_form, OneFiring, firings_in, IsMoment, IsNatural, counts_of}
use Rattle.ta_moments.specs.declared.fact.Question.TheVariants.{OfOrder}
use Rattle.ta_moments.specs.declared.fact.Fact.{Fact}
use Rattle.ta_moments.specs.declared.fact.Fact.TheVariants.{Never, First, Stands, Last, Before, After, Same, Vacant, Fails}
use Rattle.ta_moments.proofs.Speaking.{Spoken, VectorSpeaks, vector_more}
use Rattle.ta_moments.specs.Whole.{form_value}
use Rattle.ta_moments.specs.Nodes.{LastStep}
use Rattle.ta_moments.proofs.Pictures.{firings_same}
use Rattle.ta_moments.proofs.Values.{value_minus, value_negated, value_number, value_opposite, value_plus}
use Rattle.ta_moments.proofs.Reading.{Met, below_met, counter_met, fresh_natural, fresh_out, guard_met, met_left, met_map, met_right, needed_out, nothing_zero}
use Rattle.ta_moments.proofs.Reading.{spared_out, sum_counts, sum_filtered}
use Rattle.ta_moments.proofs.Segments.{firings_between}
use Rattle.ta_moments.proofs.Settling.{fewer}
use Rattle.ta_moments.proofs.Starting.{natural_is}

-- a moment with natural vectors, not behind the end, at which the counters are natural
pub record Sound (a : Automaton) (p : Pattern) (vs : List ℕ) (end : Vector) (m : Moment) : Type 0 where
  pub is_moment : IsMoment a p vs m
  pub within : AtMost a p vs (late m) end
  pub short : firings_in (moving_rules a p) (counts_of vs (late m)) ≤ firings_in (moving_rules a p) (counts_of vs (early m)) + 1
  pub early_counters : (l : ℕ) → l < length a.locations → has_bit p.empty l ≡ false → pos 0 ≤ℤ form_value vs (place_form a p (early m) (location_place a l))
  pub late_counters : (l : ℕ) → l < length a.locations → has_bit p.empty l ≡ false → pos 0 ≤ℤ form_value vs (place_form a p (late m) (location_place a l))

-- a guard holds at a moment before which no rule that needs it fires
pub record UsedFirst (a : Automaton) (p : Pattern) (vs : List ℕ) (ms : List Moment) (g : ℕ) : Type 0 where
  pub moment : Moment
  pub among : In moment ms
  pub none : (r : ℕ) → In r (needing a p g) → form_value vs (early moment r) ≡ pos 0
  pub holds : (row : Row) → slice_get (guards a) g ≡ Some row → pos 0 ≤ℤ form_value vs (form_at a p (early moment) row.form)

-- what a fact says of moments and the end
abbrev pub Says : Automaton → Pattern → List ℕ → List ℕ → Vector → List Moment → Fact → Type 0
Says a p silent vs end ms (Never g) = (r : ℕ) → In r (needing a p g) → form_value vs (end r) ≤ℤ pos 0
Says a p silent vs end ms (First g) = UsedFirst a p vs ms g
Says a p silent vs end ms (Stands g) = (row : Row) → slice_get (guards a) g ≡ Some row → pos 0 ≤ℤ form_value vs (form_at a p end row.form)
Says a p silent vs end ms (Last g) = (r : ℕ) (row : Row) → In r (needing a p g) → slice_get (guards a) g ≡ Some row → LastStep a p vs ms end r row
Says a p silent vs end ms (Before x y) = (m n : Moment) → slice_get ms x ≡ Some m → slice_get ms y ≡ Some n → AtMost a p vs (late m) (early n)
Says a p silent vs end ms (After x y) = (m n : Moment) → slice_get ms x ≡ Some m → slice_get ms y ≡ Some n → AtMost a p vs (late n) (early m)
Says a p silent vs end ms (Same x y) = (m n : Moment) → slice_get ms x ≡ Some m → slice_get ms y ≡ Some n → SameStep a p vs m n
Says a p silent vs end ms (Vacant r) = (rule : Rule) → slice_get a.rules r ≡ Some rule
    → form_value vs (place_form a p end (location_place a rule.from)) ≤ℤ pos 0
Says a p silent vs end ms (Fails r g) = (row : Row) → slice_get (guards a) g ≡ Some row → form_value vs (quiet_form a p silent end row) <ℤ pos 0

-- ---- guards
pub never_says : (a : Automaton) (p : Pattern) (vs : List ℕ) (end : Vector) (g : ℕ) → Met vs (map (λ r. opposite_form (end r)) (needing a p g)) → (r : ℕ)
    → In r (needing a p g) → form_value vs (end r) ≤ℤ pos 0
never_says a p vs end g met r i = omega (arith, ints, met_map vs (λ q. opposite_form (end q)) (needing a p g) met r i, value_opposite vs (end r))

pub first_sound : (a : Automaton) (p : Pattern) (silent vs : List ℕ) (end : Vector) (k : Known) (g : ℕ) → Spoken a p end (with_fact a p silent end k (First g))
    → Met vs (rows_of_first a p end k.unknowns g) → Sound a p vs end (Point (first_vector a p k.unknowns g))
first_sound a p silent vs end k g s met =
    let v = first_vector a p k.unknowns g in
    let speaks = s.moments (length k.moments) (Point v) (get_end k.moments (Point v) (length k.moments) refl) in
    let natural : IsNatural a p vs v = (λ r i. fresh_natural vs k.unknowns (sparing a p g) nothing_fired r (λ out. omega (arith, ints, nothing_zero vs r))) in
    let counters = counter_met a p v vs (met_left vs (counters_at a p v) _ met) in
    record {
      is_moment = record { early_natural = natural; late_natural = natural; in_order = λ r i. omega (arith, ints) };
      within = below_met a p (k.unknowns + length (sparing a p g)) v end vs speaks.0 s.ends
          (met_right vs (guard_at a p v (slice_get (guards a) g)) _ (met_right vs (counters_at a p v) _ met));
      short = omega arith;
      early_counters = counters;
      late_counters = counters;
    }

pub first_says : (a : Automaton) (p : Pattern) (vs : List ℕ) (end : Vector) (unknowns g : ℕ) → Met vs (rows_of_first a p end unknowns g) → (ms : List Moment)
    → In (Point (first_vector a p unknowns g)) ms → UsedFirst a p vs ms g
first_says a p vs end unknowns g met ms i =
    let v = first_vector a p unknowns g in
    record {
      moment = Point v;
      among = i;
      none = λ r j. ap (form_value vs) (fresh_out unknowns (sparing a p g) nothing_fired r (needed_out a p g r j)) ∙ nothing_zero vs r;
      holds = guard_met a p v vs (slice_get (guards a) g) (met_left vs (guard_at a p v (slice_get (guards a) g)) _ (met_right vs (counters_at a p v) _ met));
    }

-- the last use of a fall guard: what its rows say, part by part
pub record LastRows (a : Automaton) (p : Pattern) (vs : List ℕ) (end : Vector) (unknowns g : ℕ) : Type 0 where
  pub counters : Met vs (counters_at a p (before_vector a p end unknowns g))
  pub needing_natural : Met vs (map (before_vector a p end unknowns g) (needing a p g))
  pub guard : Met vs (guard_at a p (before_vector a p end unknowns g) (slice_get (guards a) g))
  pub one_least : pos 0 ≤ℤ form_value vs (steps_less_one a p unknowns g)
  pub one_most : pos 0 ≤ℤ form_value vs (opposite_form (steps_less_one a p unknowns g))
  pub counters_after : Met vs (counters_at a p (after_vector a p end unknowns g))
  pub within : Met vs (below a p (unknowns + length (sparing a p g) + length (needing a p g)) (after_vector a p end unknowns g) end)

pub last_rows : (a : Automaton) (p : Pattern) (vs : List ℕ) (end : Vector) (unknowns g : ℕ) → Met vs (rows_of_last a p end unknowns g)
    → LastRows a p vs end unknowns g
last_rows a p vs end unknowns g met =
    let before = before_vector a p end unknowns g in
    let after = after_vector a p end unknowns g in
    let one = met_right vs (counters_at a p before) _ met in
    let two = met_right vs (map before (needing a p g)) _ one in
    let three = met_right vs (guard_at a p before (slice_get (guards a) g)) _ two in
    let steps = met_left vs (steps_less_one a p unknowns g ∷ opposite_form (steps_less_one a p unknowns g) ∷ []) _ three in
    let four = met_right vs (steps_less_one a p unknowns g ∷ opposite_form (steps_less_one a p unknowns g) ∷ []) _ three in
    let five = met_right vs (counters_at a p after) _ four in
    record {
      counters = met_left vs (counters_at a p before) _ met;
      needing_natural = met_left vs (map before (needing a p g)) _ one;
      guard = met_left vs (guard_at a p before (slice_get (guards a) g)) _ two;
      one_least = steps (steps_less_one a p unknowns g) (inl refl);
      one_most = steps (opposite_form (steps_less_one a p unknowns g)) (inr (inl refl));
      counters_after = met_left vs (counters_at a p after) _ four;
      within = met_left vs (below a p (unknowns + length (sparing a p g) + length (needing a p g)) after end) _ five;
    }

step_natural : (a : Automaton) (p : Pattern) (vs : List ℕ) (unknowns g r : ℕ) → pos 0 ≤ℤ form_value vs (step_vector a p unknowns g r)
step_natural a p vs unknowns g r = fresh_natural vs (unknowns + length (sparing a p g)) (needing a p g) nothing_fired r
    (λ out. omega (arith, ints, nothing_zero vs r))

before_needed : (a : Automaton) (p : Pattern) (vs : List ℕ) (end : Vector) (unknowns g r : ℕ) → (In r (sparing a p g) → ⊥)
    → form_value vs (before_vector a p end unknowns g r) ≡ (form_value vs (end r) -ℤ form_value vs (step_vector a p unknowns g r))
before_needed a p vs end unknowns g r out =
    ap (form_value vs) (fresh_out unknowns (sparing a p g) (λ q. minus_form (end q) (step_vector a p unknowns g q)) r out)
    ∙ value_minus vs (end r) (step_vector a p unknowns g r)

before_natural : (a : Automaton) (p : Pattern) (vs : List ℕ) (end : Vector) (unknowns g : ℕ) → LastRows a p vs end unknowns g
    → IsNatural a p vs (before_vector a p end unknowns g)
before_natural a p vs end unknowns g rows r i =
    fresh_natural vs unknowns (sparing a p g) (λ q. minus_form (end q) (step_vector a p unknowns g q)) r (λ out.
    let row = met_map vs (before_vector a p end unknowns g) (needing a p g) rows.needing_natural r (spared_out a p g r i out) in
    omega (arith, ints, row, before_needed a p vs end unknowns g r out, value_minus vs (end r) (step_vector a p unknowns g r)))

after_is : (a : Automaton) (p : Pattern) (vs : List ℕ) (end : Vector) (unknowns g r : ℕ)
    → form_value vs (after_vector a p end unknowns g r) ≡ (form_value vs (before_vector a p end unknowns g r) +ℤ form_value vs (step_vector a p unknowns g r))
after_is a p vs end unknowns g r = value_plus vs (before_vector a p end unknowns g r) (step_vector a p unknowns g r)

after_natural : (a : Automaton) (p : Pattern) (vs : List ℕ) (end : Vector) (unknowns g : ℕ) → LastRows a p vs end unknowns g
    → IsNatural a p vs (after_vector a p end unknowns g)
after_natural a p vs end unknowns g rows r i = omega
    (arith, ints, after_is a p vs end unknowns g r, before_natural a p vs end unknowns g rows r i, step_natural a p vs unknowns g r)

-- the step is one firing
one_step : (a : Automaton) (p : Pattern) (vs : List ℕ) (end : Vector) (unknowns g : ℕ) → LastRows a p vs end unknowns g
    → OneFiring a p (counts_of vs (before_vector a p end unknowns g)) (counts_of vs (after_vector a p end unknowns g))
one_step a p vs end unknowns g rows =
    let before = before_vector a p end unknowns g in
    let after = after_vector a p end unknowns g in
    let step = step_vector a p unknowns g in
    let rs = moving_rules a p in
    let has = λ (q : ℕ). has_guard a g (slice_get a.rules q) in
    let same = firings_same rs (λ r. counts_of vs after r - counts_of vs before r) (counts_of vs step) (λ r i.
    omega (
      arith,
      ints,
      natural_is (form_value vs (after r)) (after_natural a p vs end unknowns g rows r i),
      natural_is (form_value vs (before r))
          (before_natural a p vs end unknowns g rows r i),
      natural_is (form_value vs (step r)) (step_natural a p vs unknowns g r),
      after_is a p vs end unknowns g
          r,
    )) in
    let only = sum_filtered has (counts_of vs step) rs (λ r i e.
    ap unsigned_abs (ap (form_value vs)
    (fresh_out (unknowns + length (sparing a p g)) (needing a p g) nothing_fired r (λ j. absurd (false≢true (sym e ∙ (in_filter has r rs j).0))))
    ∙ nothing_zero vs r)) in
    let sum = sum_counts vs step (needing a p g) (λ r i. step_natural a p vs unknowns g r) in
    let value = value_minus vs (sum_form step (needing a p g)) (number_form (pos 1)) in
    let turned = value_opposite vs (steps_less_one a p unknowns g) in
    omega (arith, ints, same, only, sum, value, turned, value_number vs (pos 1), rows.one_least, rows.one_most)

pub last_sound : (a : Automaton) (p : Pattern) (silent vs : List ℕ) (end : Vector) (k : Known) (g : ℕ) → Spoken a p end (with_fact a p silent end k (Last g))
    → LastRows a p vs end k.unknowns g → Sound a p vs end (Pair (before_vector a p end k.unknowns g) (after_vector a p end k.unknowns g))
last_sound a p silent vs end k g s rows =
    let u = k.unknowns in
    let before = before_vector a p end u g in
    let after = after_vector a p end u g in
    let speaks = s.moments (length k.moments) (Pair before after) (get_end k.moments (Pair before after) (length k.moments) refl) in
    let n = u + length (sparing a p g) + length (needing a p g) in
    let le : u + (length (sparing a p g) + length (needing a p g)) ≤ n = omega arith in
    record {
      is_moment = record {
        early_natural = before_natural a p vs end u g rows;
        late_natural = after_natural a p vs end u g rows;
        in_order = λ r i. omega (arith, ints, after_is a p vs end u g r, step_natural a p vs u g r);
      };
      within = below_met a p n after end vs (vector_more (u + (length (sparing a p g) + length (needing a p g))) n after le speaks.1)
          (vector_more (u + (length (sparing a p g) + length (needing a p g))) n end le s.ends) rows.within;
      short = omega (
        arith,
        one_step a p vs end u g rows,
        firings_between (moving_rules a p) (counts_of vs before) (counts_of vs after)
            (fewer a p vs before after (before_natural a p vs end u g rows) (after_natural a p vs end u g rows)
            (λ r i. omega (arith, ints, after_is a p vs end u g r, step_natural a p vs u g r))),
      );
      early_counters = counter_met a p before vs rows.counters;
      late_counters = counter_met a p after vs rows.counters_after;
    }

pub last_says : (a : Automaton) (p : Pattern) (vs : List ℕ) (end : Vector) (unknowns g : ℕ) → LastRows a p vs end unknowns g → (ms : List Moment)
    → In (Pair (before_vector a p end unknowns g) (after_vector a p end unknowns g)) ms
    → (r : ℕ) (row : Row) → In r (needing a p g) → slice_get (guards a) g ≡ Some row → LastStep a p vs ms end r row
last_says a p vs end unknowns g rows ms i r row j at = record {
  moment = Pair (before_vector a p end unknowns g) (after_vector a p end unknowns g);
  among = i;
  one = one_step a p vs end unknowns g rows;
  last = omega (arith, ints, after_is a p vs end unknowns g r, before_needed a p vs end unknowns g r (needed_out a p g r j));
  holds = guard_met a p (before_vector a p end unknowns g) vs (slice_get (guards a) g) rows.guard row at;
}

-- ---- orders
pub order_says : (a : Automaton) (p : Pattern) (vs : List ℕ) (n : ℕ) (ox oy : Option Moment) → Met vs (rows_of_order a p n ox oy) → (x y : Moment) → ox ≡ Some x
    → oy ≡ Some y → VectorSpeaks n (late x) → VectorSpeaks n (early y) → AtMost a p vs (late x) (early y)
order_says a p vs n ox oy met x y ex ey sx sy =
    let one = subst (λ (o : Option Moment). Met vs (rows_of_order a p n o oy)) ex met in
    let two = subst (λ (o : Option Moment). Met vs (rows_of_order a p n (Some x) o)) ey one in
    below_met a p n (late x) (early y) vs sx sy two

step_of : (a : Automaton) (p : Pattern) (vs : List ℕ) (x y : Moment) → is_pair x ≡ true → is_pair y ≡ true → AtMost a p vs (early x) (early y)
    → AtMost a p vs (early y) (early x) → AtMost a p vs (late x) (late y) → AtMost a p vs (late y) (late x) → SameStep a p vs x y
step_of a p vs (Point v) y e f one two three four = absurd (false≢true e)
step_of a p vs (Pair v w) (Point z) e f one two three four = absurd (false≢true f)
step_of a p vs (Pair v w) (Pair s t) e f one two three four = (one, two, three, four)

pub same_says : (a : Automaton) (p : Pattern) (vs : List ℕ) (n : ℕ) (ox oy : Option Moment) → Met vs (rows_of_same a p n ox oy) → are_pairs ox oy ≡ true
    → (x y : Moment) → ox ≡ Some x → oy ≡ Some y
    → VectorSpeaks n (early x) × VectorSpeaks n (late x) → VectorSpeaks n (early y) × VectorSpeaks n (late y) → SameStep a p vs x y
same_says a p vs n ox oy met pairs x y ex ey sx sy =
    let one = subst (λ (o : Option Moment). Met vs (rows_of_same a p n o oy)) ex met in
    let rows = subst (λ (o : Option Moment). Met vs (rows_of_same a p n (Some x) o)) ey one in
    let both = and_parts (is_pair x) (is_pair y) (ap (are_pairs (Some x)) (sym ey) ∙ ap (λ (o : Option Moment). are_pairs o oy) (sym ex) ∙ pairs) in
    let two = met_right vs (below a p n (early x) (early y)) _ rows in
    let three = met_right vs (below a p n (early y) (early x)) _ two in
    step_of a p vs x y both.0 both.1
    (below_met a p n (early x) (early y) vs sx.0 sy.0 (met_left vs (below a p n (early x) (early y)) _ rows))
    (below_met a p n (early y) (early x) vs sy.0 sx.0 (met_left vs (below a p n (early y) (early x)) _ two))
    (below_met a p n (late x) (late y) vs sx.1 sy.1 (met_left vs (below a p n (late x) (late y)) (below a p n (late y) (late x)) three))
    (below_met a p n (late y) (late x) vs sy.1 sx.1 (met_right vs (below a p n (late x) (late y)) (below a p n (late y) (late x)) three))

-- both same moments are pairs, where the answer is allowed
pub same_allowed : (a : Automaton) (k : Known) (x y : ℕ) → In (Same x y) (answers a k (OfOrder x y))
    → are_pairs (slice_get k.moments x) (slice_get k.moments y) ≡ true
same_allowed a k x y i = listed (are_pairs (slice_get k.moments x) (slice_get k.moments y)) i where
  listed : (b : Bool) → In (Same x y) (cond b (Same x y ∷ Before x y ∷ After x y ∷ []) (Before x y ∷ After x y ∷ [])) → b ≡ true
  listed true j = refl
  listed false (inl e) = cc
  listed false (inr (inl e)) = cc
  listed false (inr (inr j)) = absurd j

-- ---- rest
pub vacant_says : (a : Automaton) (p : Pattern) (vs : List ℕ) (end : Vector) (o : Option Rule) → Met vs (map opposite_form (source_at a p end o))
    → (rule : Rule) → o ≡ Some rule → form_value vs (place_form a p end (location_place a rule.from)) ≤ℤ pos 0
vacant_says a p vs end o met rule e =
    let row = subst (λ (x : Option Rule). Met vs (map opposite_form (source_at a p end x))) e met
    (opposite_form (place_form a p end (location_place a rule.from))) (inl refl) in
    omega (arith, ints, row, value_opposite vs (place_form a p end (location_place a rule.from)))

pub fails_says : (a : Automaton) (p : Pattern) (silent vs : List ℕ) (end : Vector) (o : Option Row) → Met vs (map negated_form (quiet_at a p silent end o))
    → (row : Row) → o ≡ Some row → form_value vs (quiet_form a p silent end row) <ℤ pos 0
fails_says a p silent vs end o met row e =
    let f = subst (λ (x : Option Row). Met vs (map negated_form (quiet_at a p silent end x))) e met (negated_form (quiet_form a p silent end row)) (inl refl) in
    omega (arith, ints, f, value_negated vs (quiet_form a p silent end row))
