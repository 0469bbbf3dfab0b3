-- what natural values that meet a node's rows say of its moments and its facts
use Rattle.ta_moments.proofs.Common.{◌≡◌, inl, inr, ℕ, ◌+◌, ◌<◌, pos, ◌≤ℤ◌, List, [], ◌∷◌, ◌++◌, map, flat_map, filter, length, slice_get, Some, None, Option}
use Rattle.ta_moments.proofs.Common.{Bool, true, not, eqb, cond, arith, sym, ap, ◌∙◌, refl, subst, ints, All, get_or, get_map, number_here, slice_get_within}
use Rattle.ta_moments.proofs.Common.{eqb_tells, eqb-true, start_meanings, ◌*◌, cases_Bool, and_from, same_Some, some_at, slice_get_left, bit_set, In, In-filter}
use Rattle.ta_moments.proofs.Common.{In-numbers, in_append, in_at, in_map, in_numbers, range_with_len, Automaton, Pattern, Comparison, Event, Row}
use Rattle.ta_moments.proofs.Common.{ComeAfterEarlier, candidates, comes_after, has_later, moving_rules, Vector, Moment, Point, Pair, early, late, Known}
use Rattle.ta_moments.proofs.Common.{nothing_fired, known, form_at, counters_at, condition_at, event_at, guard_at, guards, opposite_form, negated_form}
use Rattle.ta_moments.proofs.Common.{quiet_at, source_at, below, with_fact, event_vector, end_vector, rows_at_start, rows_of_event, rows_of_after, rows_of_end}
use Rattle.ta_moments.proofs.Common.{is_beside, unknowns_at_first, at_first, before_vector, after_vector, first_vector, rows_of_first, rows_of_last}
use Rattle.ta_moments.proofs.Common.{rows_of_order, rows_of_same, needing, answers, Asking, Exists, get_end, question_of, AreAnswers, AtMost, SameStep}
use Rattle.ta_moments.proofs.Common.{IsNatural}
use Rattle.ta_moments.specs.declared.fact.Fact.{Fact}
use Rattle.ta_moments.specs.declared.fact.Fact.TheVariants.{Never, First, Stands, Last, Before, After, Same, Vacant, Fails}
use Rattle.ta_base.proofs.Members.{in_get_or}
use Rattle.ta_moments.proofs.Speaking.{Spoken, VectorSpeaks, event_less, nodes_begin, spoken}
use Rattle.ta_moments.specs.Whole.{form_value}
use Rattle.ta_moments.proofs.Reading.{Met, below_met, counter_met, fresh_natural, guard_met, met_each, met_left, met_map, met_right, nothing_zero}
use Rattle.ta_moments.proofs.Saying.{Says, Sound, fails_says, first_says, first_sound, last_rows, last_says, last_sound, never_says, order_says, same_allowed}
use Rattle.ta_moments.proofs.Saying.{same_says, vacant_says}

-- moments are sound, and facts say what they say of all moments of a node below
pub record Read (a : Automaton) (p : Pattern) (silent vs : List ℕ) (end : Vector) (ms all : List Moment) (past : List Fact) : Type 0 where
  pub sound : (m : Moment) → In m ms → Sound a p vs end m
  pub says : (fact : Fact) → In fact past → Says a p silent vs end all fact

-- the moments of a list are the first ones of another
abbrev pub AreFirst : List Moment → List Moment → Type 0
AreFirst ms all = (x : ℕ) (m : Moment) → slice_get ms x ≡ Some m → slice_get all x ≡ Some m

-- ---- a fact more
fact_more : (a : Automaton) (p : Pattern) (silent vs : List ℕ) (end : Vector) (ms new all : List Moment) (past : List Fact) → Read a p silent vs end ms all past
    → ((m : Moment) → In m new → Sound a p vs end m) → (fact : Fact) → Says a p silent vs end all fact → Read a p silent vs end (ms ++ new) all (fact ∷ past)
fact_more a p silent vs end ms new all past r sound fact says = record {
  sound = λ m i. elim (in_append m ms new i) [ inl old ↦ r.sound m old | inr here ↦ sound m here ];
  says = λ other i. elim i [ inl e ↦ subst (Says a p silent vs end all) (sym e) says | inr old ↦ r.says other old ];
}

none_new : (a : Automaton) (p : Pattern) (vs : List ℕ) (end : Vector) (m : Moment) → In m [] → Sound a p vs end m
none_new a p vs end m i = absurd i

one_new : (a : Automaton) (p : Pattern) (vs : List ℕ) (end : Vector) (new : Moment) → Sound a p vs end new → (m : Moment) → In m (new ∷ []) → Sound a p vs end m
one_new a p vs end new s m (inl e) = subst (Sound a p vs end) (sym e) s
one_new a p vs end new s m (inr i) = absurd i

-- a new moment is one of all
newest_in : (ms all : List Moment) (new : Moment) → AreFirst (ms ++ new ∷ []) all → In new all
newest_in ms all new first = in_at all (length ms) new (first (length ms) new (get_end ms new (length ms) refl))

-- the two moments of an order
record Two (ms : List Moment) (x y : ℕ) : Type 0 where
  pub one : Moment
  pub other : Moment
  pub one_at : slice_get ms x ≡ Some one
  pub other_at : slice_get ms y ≡ Some other

two_at : (ms : List Moment) (x y : ℕ) → x < y → y < length ms → Two ms x y
two_at ms x y less within =
    let one = some_at ms x (omega arith) in
    let other = some_at ms y within in
    record { one = one.0; other = other.0; one_at = one.1; other_at = other.1 }

fact_read : (a : Automaton) (p : Pattern) (asking : Asking) (vs : List ℕ) (end : Vector) (k : Known) (all : List Moment) (past : List Fact) (fact : Fact)
    → Spoken a p end k → Spoken a p end (with_fact a p asking.silent end k fact)
    → AreFirst (with_fact a p asking.silent end k fact).moments all → Met vs (with_fact a p asking.silent end k fact).rows
    → Exists a p asking k (question_of fact) → In fact (answers a k (question_of fact))
    → Read a p asking.silent vs end k.moments all past → Read a p asking.silent vs end (with_fact a p asking.silent end k fact).moments all (fact ∷ past)
fact_read a p asking vs end k all past (Never g) s t first met exists allowed r =
    fact_more a p asking.silent vs end k.moments [] all past r (none_new a p vs end) (Never g)
    (never_says a p vs end g (met_right vs k.rows (map (λ q. opposite_form (end q)) (needing a p g)) met))
fact_read a p asking vs end k all past (First g) s t first met exists allowed r =
    let new = Point (first_vector a p k.unknowns g) in
    let rows = met_right vs k.rows (rows_of_first a p end k.unknowns g) met in
    fact_more a p asking.silent vs end k.moments (new ∷ []) all past r (one_new a p vs end new (first_sound a p asking.silent vs end k g t rows)) (First g)
    (first_says a p vs end k.unknowns g rows all (newest_in k.moments all new first))
fact_read a p asking vs end k all past (Stands g) s t first met exists allowed r =
    fact_more a p asking.silent vs end k.moments [] all past r (none_new a p vs end) (Stands g)
    (guard_met a p end vs (slice_get (guards a) g) (met_right vs k.rows (guard_at a p end (slice_get (guards a) g)) met))
fact_read a p asking vs end k all past (Last g) s t first met exists allowed r =
    let new = Pair (before_vector a p end k.unknowns g) (after_vector a p end k.unknowns g) in
    let rows = last_rows a p vs end k.unknowns g (met_right vs k.rows (rows_of_last a p end k.unknowns g) met) in
    fact_more a p asking.silent vs end k.moments (new ∷ []) all past r (one_new a p vs end new (last_sound a p asking.silent vs end k g t rows)) (Last g)
    (last_says a p vs end k.unknowns g rows all (newest_in k.moments all new first))
fact_read a p asking vs end k all past (Before x y) s t first met exists allowed r =
    let w = two_at k.moments x y exists.0 exists.1 in
    let old : AreFirst k.moments all = (λ i m at. first i m (slice_get_left k.moments [] i m at)) in
    let le = order_says a p vs k.unknowns (slice_get k.moments x) (slice_get k.moments y)
    (met_right vs k.rows (rows_of_order a p k.unknowns (slice_get k.moments x) (slice_get k.moments y)) met) w.one w.other w.one_at w.other_at
    (s.moments x w.one w.one_at).1 (s.moments y w.other w.other_at).0 in
    fact_more a p asking.silent vs end k.moments [] all past r (none_new a p vs end) (Before x y) (λ m n at there.
    subst (λ (u : Moment). AtMost a p vs (late u) (early n)) (same_Some w.one m (sym (old x w.one w.one_at) ∙ at))
    (subst (λ (u : Moment). AtMost a p vs (late w.one) (early u)) (same_Some w.other n (sym (old y w.other w.other_at) ∙ there)) le))
fact_read a p asking vs end k all past (After x y) s t first met exists allowed r =
    let w = two_at k.moments x y exists.0 exists.1 in
    let old : AreFirst k.moments all = (λ i m at. first i m (slice_get_left k.moments [] i m at)) in
    let le = order_says a p vs k.unknowns (slice_get k.moments y) (slice_get k.moments x)
    (met_right vs k.rows (rows_of_order a p k.unknowns (slice_get k.moments y) (slice_get k.moments x)) met) w.other w.one w.other_at w.one_at
    (s.moments y w.other w.other_at).1 (s.moments x w.one w.one_at).0 in
    fact_more a p asking.silent vs end k.moments [] all past r (none_new a p vs end) (After x y) (λ m n at there.
    subst (λ (u : Moment). AtMost a p vs (late n) (early u)) (same_Some w.one m (sym (old x w.one w.one_at) ∙ at))
    (subst (λ (u : Moment). AtMost a p vs (late u) (early w.one)) (same_Some w.other n (sym (old y w.other w.other_at) ∙ there)) le))
fact_read a p asking vs end k all past (Same x y) s t first met exists allowed r =
    let w = two_at k.moments x y exists.0 exists.1 in
    let old : AreFirst k.moments all = (λ i m at. first i m (slice_get_left k.moments [] i m at)) in
    let same = same_says a p vs k.unknowns (slice_get k.moments x) (slice_get k.moments y)
    (met_right vs k.rows (rows_of_same a p k.unknowns (slice_get k.moments x) (slice_get k.moments y)) met) (same_allowed a k x y allowed) w.one w.other
    w.one_at w.other_at (s.moments x w.one w.one_at) (s.moments y w.other w.other_at) in
    fact_more a p asking.silent vs end k.moments [] all past r (none_new a p vs end) (Same x y) (λ m n at there.
    subst (λ (u : Moment). SameStep a p vs u n) (same_Some w.one m (sym (old x w.one w.one_at) ∙ at))
    (subst (λ (u : Moment). SameStep a p vs w.one u) (same_Some w.other n (sym (old y w.other w.other_at) ∙ there)) same))
fact_read a p asking vs end k all past (Vacant q) s t first met exists allowed r =
    fact_more a p asking.silent vs end k.moments [] all past r (none_new a p vs end) (Vacant q)
    (vacant_says a p vs end (slice_get a.rules q) (met_right vs k.rows (map opposite_form (source_at a p end (slice_get a.rules q))) met))
fact_read a p asking vs end k all past (Fails q g) s t first met exists allowed r =
    fact_more a p asking.silent vs end k.moments [] all past r (none_new a p vs end) (Fails q g)
    (fails_says a p asking.silent vs end (slice_get (guards a) g)
    (met_right vs k.rows (map negated_form (quiet_at a p asking.silent end (slice_get (guards a) g))) met))

-- ---- the events
-- the rows of a node without facts, part by part
pub record FirstRows (a : Automaton) (p : Pattern) (vs : List ℕ) (candidate : Option ℕ) : Type 0 where
  pub start : Met vs (rows_at_start a p)
  pub events : (e : ℕ) → e < length p.events → Met vs (rows_of_event a p e)
  pub after : (e : ℕ) → e < length p.events → Met vs (rows_of_after a p e)
  pub end : Met vs (rows_of_end a p candidate)

pub first_rows : (a : Automaton) (p : Pattern) (vs : List ℕ) (candidate : Option ℕ) → Met vs (at_first a p candidate).rows → FirstRows a p vs candidate
first_rows a p vs candidate met =
    let n = range_with_len 0 (length p.events) in
    let one = met_right vs (rows_at_start a p) _ met in
    let two = met_right vs (flat_map (rows_of_event a p) n) _ one in
    record {
      start = met_left vs (rows_at_start a p) _ met;
      events = λ e less. met_each vs (rows_of_event a p) n (met_left vs (flat_map (rows_of_event a p) n) _ one) e
          (In-numbers e 0 (length p.events) (omega arith) (omega arith));
      after = λ e less. met_each vs (rows_of_after a p) n (met_left vs (flat_map (rows_of_after a p) n) (rows_of_end a p candidate) two) e
          (In-numbers e 0 (length p.events) (omega arith) (omega arith));
      end = met_right vs (flat_map (rows_of_after a p) n) (rows_of_end a p candidate) two;
    }

-- the moments of events
pub event_moment : (a : Automaton) (p : Pattern) (candidate : Option ℕ) (e : ℕ) → e < length p.events
    → slice_get (at_first a p candidate).moments e ≡ Some (Point (event_vector a p e))
event_moment a p candidate e less = get_map (λ x. Point (event_vector a p x)) (range_with_len 0 (length p.events)) e e (number_here e (length p.events) less)

event_speaks : (a : Automaton) (p : Pattern) (candidate : Option ℕ) → Spoken a p (end_vector a p candidate) (at_first a p candidate) → (e : ℕ)
    → e < length p.events → VectorSpeaks (unknowns_at_first a p) (event_vector a p e)
event_speaks a p candidate s e less = (s.moments e (Point (event_vector a p e)) (event_moment a p candidate e less)).0

pub event_natural : (a : Automaton) (p : Pattern) (vs : List ℕ) (e : ℕ) → IsNatural a p vs (event_vector a p e)
event_natural a p vs e r i = fresh_natural vs (length (start_meanings a p) + e * length (moving_rules a p)) (moving_rules a p) nothing_fired r
    (λ out. omega (arith, ints, nothing_zero vs r))

pub end_natural : (a : Automaton) (p : Pattern) (vs : List ℕ) (candidate : Option ℕ) → IsNatural a p vs (end_vector a p candidate)
end_natural a p vs None r i = omega (arith, ints, nothing_zero vs r)
end_natural a p vs (Some e) r i = event_natural a p vs e r i

no_candidate : (p : Pattern) → In None (candidates p) → length p.events ≡ 0
no_candidate p i = elim (cases_Bool (eqb (length p.events) 0)) [
  | inl t ↦ eqb-true (length p.events) 0 t
  | inr e ↦ (
      let listed = map Some (filter (λ x. not (has_later p x)) (range_with_len 0 (length p.events))) in
      let j = subst (λ (b : Bool). In {X = Option ℕ} None (cond b (None ∷ []) listed)) e i in
      let w = in_map Some None (filter (λ x. not (has_later p x)) (range_with_len 0 (length p.events))) j in
      let none : None ≡ Some w.0 = w.2 in
      cc)
]

-- an event below another
pub after_met : (a : Automaton) (p : Pattern) → ComeAfterEarlier p → (vs : List ℕ) (candidate : Option ℕ)
    → Spoken a p (end_vector a p candidate) (at_first a p candidate) → FirstRows a p vs candidate
    → (e f : ℕ) → e < length p.events → comes_after (slice_get p.events e) f ≡ true → AtMost a p vs (event_vector a p f) (event_vector a p e)
after_met a p earlier vs candidate s rows e f less t =
    let known_event = some_at p.events e less in
    let before : f < e = earlier e known_event.0 known_event.1 f
    (bit_set (known_event.0).after f (ap (λ (o : Option Event). comes_after o f) (sym known_event.1) ∙ t)) in
    let here = event_speaks a p candidate s in
    below_met a p (unknowns_at_first a p) (event_vector a p f) (event_vector a p e) vs (here f (omega arith)) (here e less)
    (met_each vs (λ x. below a p (unknowns_at_first a p) (event_vector a p x) (event_vector a p e))
    (filter (comes_after (slice_get p.events e)) (range_with_len 0 e)) (rows.after e less) f
    (In-filter (comes_after (slice_get p.events e)) f (range_with_len 0 e) t (In-numbers f 0 e (omega arith) (omega arith))))

-- each event is before the end
pub event_within : (a : Automaton) (p : Pattern) → ComeAfterEarlier p → (vs : List ℕ) (candidate : Option ℕ) → In candidate (candidates p)
    → Spoken a p (end_vector a p candidate) (at_first a p candidate) → FirstRows a p vs candidate
    → (e : ℕ) → e < length p.events → AtMost a p vs (event_vector a p e) (end_vector a p candidate)
event_within a p earlier vs None listed s rows e less = absurd (omega (arith, no_candidate p listed))
event_within a p earlier vs (Some last) listed s rows e less = elim (eqb_tells e last) [
  | inl same ↦ subst (λ (x : ℕ). AtMost a p vs (event_vector a p e) (event_vector a p x)) same.1 (λ r i. omega (arith, ints))
  | inr ne ↦ elim (cases_Bool (comes_after (slice_get p.events last) e)) [
    | inl t ↦ after_met a p earlier vs (Some last) s rows last e (event_less p last listed) t
    | inr f ↦ below_met a p (unknowns_at_first a p) (event_vector a p e) (event_vector a p last) vs (event_speaks a p (Some last) s e less) s.ends
        (met_each vs (λ x. below a p (unknowns_at_first a p) (event_vector a p x) (event_vector a p last))
        (filter (is_beside p (Some last)) (range_with_len 0 (length p.events))) rows.end e
        (In-filter (is_beside p (Some last)) e (range_with_len 0 (length p.events)) (and_from _ _ (ap not ne.0) (ap not f))
        (In-numbers e 0 (length p.events) (omega arith) (omega arith))))
  ]
]

pub event_sound : (a : Automaton) (p : Pattern) → ComeAfterEarlier p → (vs : List ℕ) (candidate : Option ℕ) → In candidate (candidates p)
    → Spoken a p (end_vector a p candidate) (at_first a p candidate) → FirstRows a p vs candidate
    → (e : ℕ) → e < length p.events → Sound a p vs (end_vector a p candidate) (Point (event_vector a p e))
event_sound a p earlier vs candidate listed s rows e less =
    let v = event_vector a p e in
    let counters = counter_met a p v vs (met_left vs (counters_at a p v) (event_at a p v (slice_get p.events e)) (rows.events e less)) in
    record {
      is_moment = record { early_natural = event_natural a p vs e; late_natural = event_natural a p vs e; in_order = λ r i. omega (arith, ints) };
      within = event_within a p earlier vs candidate listed s rows e less;
      short = omega arith;
      early_counters = counters;
      late_counters = counters;
    }

condition_met : (a : Automaton) (p : Pattern) (v : Vector) (vs : List ℕ) (ks : List Comparison) → Met vs (condition_at a p v ks)
    → All (λ (k : Comparison). All (λ (row : Row). pos 0 ≤ℤ form_value vs (form_at a p v row.form)) k.rows) ks
condition_met a p v vs ks met j d b i x c =
    let k = get_or ks j d in
    met_map vs (λ (row : Row). form_at a p v row.form) k.rows
    (met_each vs (λ (q : Comparison). map (λ (row : Row). form_at a p v row.form) q.rows) ks met k (in_get_or ks j d b)) (get_or k.rows i x)
    (in_get_or k.rows i x c)

pub event_holds : (a : Automaton) (p : Pattern) (vs : List ℕ) (candidate : Option ℕ) → FirstRows a p vs candidate → (e : ℕ) (event : Event)
    → slice_get p.events e ≡ Some event
    → All (λ (k : Comparison). All (λ (row : Row). pos 0 ≤ℤ form_value vs (form_at a p (event_vector a p e) row.form)) k.rows) event.condition.comparisons
event_holds a p vs candidate rows e event at =
    let v = event_vector a p e in
    condition_met a p v vs event.condition.comparisons
    (subst (λ (o : Option Event). Met vs (event_at a p v o)) at
    (met_right vs (counters_at a p v) (event_at a p v (slice_get p.events e)) (rows.events e (slice_get_within p.events e event at))))

-- ---- a node
-- a node without facts
first_read : (a : Automaton) (p : Pattern) → ComeAfterEarlier p → (silent vs : List ℕ) (candidate : Option ℕ) → In candidate (candidates p)
    → Spoken a p (end_vector a p candidate) (at_first a p candidate) → FirstRows a p vs candidate
    → (all : List Moment) → Read a p silent vs (end_vector a p candidate) (at_first a p candidate).moments all []
first_read a p earlier silent vs candidate listed s rows all = record {
  sound = λ m i.
      let w = in_map (λ e. Point (event_vector a p e)) m (range_with_len 0 (length p.events)) i in
      let less = (in_numbers w.0 0 (length p.events) w.1).1 in
      subst (Sound a p vs (end_vector a p candidate)) (sym w.2) (event_sound a p earlier vs candidate listed s rows w.0 (omega (arith, less)));
  says = λ fact i. absurd i;
}

-- what is said of a node
pub record NodeRead (a : Automaton) (p : Pattern) (asking : Asking) (vs : List ℕ) (candidate : Option ℕ) (past : List Fact) (all : List Moment) : Type 0 where
  pub spoken : Spoken a p (end_vector a p candidate) (at_first a p candidate)
  pub first : FirstRows a p vs candidate
  pub begins : AreFirst (at_first a p candidate).moments all
  pub read : Read a p asking.silent vs (end_vector a p candidate) (known a p asking.silent candidate past).moments all past

pub node_read : (a : Automaton) (p : Pattern) → ComeAfterEarlier p → (asking : Asking) (vs : List ℕ) (candidate : Option ℕ) → In candidate (candidates p)
    → (past : List Fact) → AreAnswers a p asking candidate past
    → Met vs (known a p asking.silent candidate past).rows → (all : List Moment) → AreFirst (known a p asking.silent candidate past).moments all
    → NodeRead a p asking vs candidate past all
unfolding known
node_read a p earlier asking vs candidate listed [] answered met all first =
    let s = spoken a p asking.silent candidate listed [] in
    let rows = first_rows a p vs candidate met in
    record { spoken = s; first = rows; begins = first; read = first_read a p earlier asking.silent vs candidate listed s rows all }
node_read a p earlier asking vs candidate listed (fact ∷ past) answered met all first =
    let k = known a p asking.silent candidate past in
    let end = end_vector a p candidate in
    let b = nodes_begin a p asking.silent candidate past fact in
    let old : Met vs k.rows = met_left vs k.rows b.new_rows (subst (Met vs) b.rows met) in
    let front : AreFirst k.moments all =
    (λ x m at. first x m (subst (λ (ms : List Moment). slice_get ms x ≡ Some m) (sym b.moments) (slice_get_left k.moments b.new_moments x m at))) in
    let above = node_read a p earlier asking vs candidate listed past answered.2 old all front in
    record {
      spoken = above.spoken;
      first = above.first;
      begins = above.begins;
      read = fact_read a p asking vs end k all past fact (spoken a p asking.silent candidate listed past)
          (spoken a p asking.silent candidate listed (fact ∷ past)) first met answered.0 answered.1 above.read;
    }
