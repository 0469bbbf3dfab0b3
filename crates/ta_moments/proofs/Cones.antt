-- the constants of the rows of nodes whose conditions have no positive ones
--
-- Where no guard falls and no condition has a positive constant, vectors have no constants: each form is an unknown or 0. So the
-- constant of a row is that of the condition that it states, or 0, and nowhere positive. If c times a scale of at least 1 plus the
-- other terms is at least 0, and c is not positive, then c plus these terms is: so a solution multiplied by its denominator meets
-- each row.
use Rattle.ta_moments.proofs.Common.{Node, zero-*ℤ, ◌≡◌, ◌⊎◌, inl, inr, ℕ, ◌+◌, ◌<◌, ◌≤◌, ℤ, pos, ◌+ℤ◌, ◌-ℤ◌, ◌*ℤ◌, ◌*◌, ◌≤ℤ◌, List, [], ◌∷◌, ◌++◌, map}
use Rattle.ta_moments.proofs.Common.{flat_map, length, slice_get, Some, None, Option, Bool, true, false≢true, cond, ltb, nat_tests, arith, ints, sym, ap, ◌∙◌}
use Rattle.ta_moments.proofs.Common.{refl, subst, *ℤ-zero, eqb_tells, slice_get_within, get_push, append-nil, All, AllByRecursion, In, in_append, in_at}
use Rattle.ta_moments.proofs.Common.{in_filter, in_map, range_with_len, range_sum, Automaton, Pattern, Comparison, Event, Row, LinearRow, UnknownForm}
use Rattle.ta_moments.proofs.Common.{times_form, minus_form, opposite_form, form_of_row, sum_form, terms_form, processes_row, opposite, condition_rows}
use Rattle.ta_moments.proofs.Common.{start_meanings, answers, moving_rules, needing, sparing, Vector, Moment, Point, Known, nothing_fired, early, late}
use Rattle.ta_moments.proofs.Common.{place_form, form_at, counters_at, condition_at, event_at, guard_at, guards, below, with_more, event_vector, end_vector}
use Rattle.ta_moments.proofs.Common.{rows_at_start, rows_of_event, unknowns_at_first, rows_of_after, rows_of_end, at_first, first_vector, rows_of_order}
use Rattle.ta_moments.proofs.Common.{rows_of_same, with_fact, fresh, known, location_place, of_events, Exists, form_row, question_of, may_be_negative}
use Rattle.ta_moments.proofs.Common.{AreAnswers, Values, get_or_from_slice_get, expand, mul-ge-zero, place_of, rule_change, Form, Meaning}
use Rattle.ta_moments.specs.Scaled.{ScaledQuestionsLeaveNothing, ConesHaveNoPositiveConstants, IsCone, NonePositive, ScaledValuesMeetCones, scaled_value}
use Rattle.ta_moments.specs.Whole.{form_value}
use Rattle.ta_moments.specs.declared.fact.Fact.{Fact}
use Rattle.ta_moments.specs.declared.fact.Fact.TheVariants.{Never, First, Stands, Last, Before, After, Same, Vacant, Fails}
use Rattle.ta_moments.proofs.Unasked.{Agrees, from_each, guard_left, known_scaled, none_asked, orders_left}
use Rattle.ta_moments.proofs.Values.{value_is}
use Rattle.ta_moments.proofs.Worth.{number}

-- rows without positive constants
abbrev Low : List UnknownForm → Type 0
Low rows = (f : UnknownForm) → In f rows → f.constant ≤ℤ pos 0

low_append : (fs gs : List UnknownForm) → Low fs → Low gs → Low (fs ++ gs)
low_append fs gs h i f j = elim (in_append f fs gs j) [ inl k ↦ h f k | inr k ↦ i f k ]

low_each : {X : Type 0} (g : X → List UnknownForm) (xs : List X) → ((x : X) → In x xs → Low (g x)) → Low (flat_map g xs)
low_each g xs h f i = let w = from_each g xs f i in h w.0 w.1 f w.2

low_map : {X : Type 0} (g : X → UnknownForm) (xs : List X) → ((x : X) → In x xs → (g x).constant ≤ℤ pos 0) → Low (map g xs)
low_map g xs h f i =
    let w = in_map g f xs i in
    subst (λ (y : UnknownForm). y.constant ≤ℤ pos 0) (sym w.2) (h w.0 w.1)

low_all : (fs : List UnknownForm) → Low fs → AllByRecursion (λ (f : UnknownForm). f.constant ≤ℤ pos 0) fs
low_all [] h = tt
low_all (f ∷ fs) h = (h f (inl refl), low_all fs (λ g i. h g (inr i)))

-- ---- vectors have no constants
abbrev Bare : Vector → Type 0
Bare v = (r : ℕ) → (v r).constant ≡ pos 0

bare_fresh : (n : ℕ) (rs : List ℕ) (r : ℕ) → (fresh n rs nothing_fired r).constant ≡ pos 0
unfolding fresh
bare_fresh n [] r = refl
bare_fresh n (q ∷ qs) r = elim (eqb_tells q r) [ inl same ↦ rw same.0 refl | inr ne ↦ rw ne.0 (bare_fresh (n + 1) qs r) ]

bare_event : (a : Automaton) (p : Pattern) (e : ℕ) → Bare (event_vector a p e)
bare_event a p e r = bare_fresh (length (start_meanings a p) + e * length (moving_rules a p)) (moving_rules a p) r

bare_first : (a : Automaton) (p : Pattern) (unknowns g : ℕ) → Bare (first_vector a p unknowns g)
bare_first a p unknowns g r = bare_fresh unknowns (sparing a p g) r

bare_end : (a : Automaton) (p : Pattern) (candidate : Option ℕ) → Bare (end_vector a p candidate)
bare_end a p None r = refl
bare_end a p (Some e) r = bare_event a p e r

bare_sum : (g : ℕ → UnknownForm) (rs : List ℕ) → ((r : ℕ) → (g r).constant ≡ pos 0) → (sum_form g rs).constant ≡ pos 0
unfolding sum_form
bare_sum g [] h = refl
bare_sum g (r ∷ rs) h = omega (arith, ints, h r, bare_sum g rs h)

bare_place : (a : Automaton) (p : Pattern) (v : Vector) → Bare v → (i : ℕ) → (place_form a p v i).constant ≡ pos 0
bare_place a p v h i =
    let k = λ (r : ℕ). rule_change a (slice_get a.rules r) i in
    omega (arith, ints, bare_sum (λ r. times_form (k r) (v r)) (moving_rules a p) (λ r. ap (λ z. k r *ℤ z) (h r) ∙ *ℤ-zero (k r)))

bare_terms : (point : ℕ → UnknownForm) → ((i : ℕ) → (point i).constant ≡ pos 0) → (ts : List (ℕ × ℤ)) → (terms_form point ts).constant ≡ pos 0
unfolding terms_form
bare_terms point h [] = refl
bare_terms point h (t ∷ ts) = let z : (t.1 *ℤ (point t.0).constant) ≡ pos 0 = ap (λ y. t.1 *ℤ y) (h t.0) ∙ *ℤ-zero t.1 in omega
    (arith, ints, z, bare_terms point h ts)

form_constant : (a : Automaton) (p : Pattern) (v : Vector) → Bare v → (f : Form) → (form_at a p v f).constant ≡ f.constant
form_constant a p v h f = omega (arith, ints, bare_terms (place_form a p v) (bare_place a p v h) f.terms)

-- ---- rows
low_counters : (a : Automaton) (p : Pattern) (v : Vector) → Bare v → Low (counters_at a p v)
low_counters a p v h = low_map (λ l. place_form a p v (location_place a l)) _ (λ l i. omega (arith, ints, bare_place a p v h (location_place a l)))

low_below : (a : Automaton) (p : Pattern) (n : ℕ) (v w : Vector) → Bare v → Bare w → Low (below a p n v w)
low_below a p n v w h k f i =
    let all = map (λ r. minus_form (w r) (v r)) (moving_rules a p) in
    low_map (λ r. minus_form (w r) (v r)) (moving_rules a p) (λ r j. omega (arith, ints, h r, k r)) f (in_filter (may_be_negative n) f all i).1

low_rows : (ks : List Comparison) → All (λ (k : Comparison). All (λ (row : Row). row.form.constant ≤ℤ pos 0) k.rows) ks → (k : Comparison) → In k ks
    → (row : Row) → In row k.rows → row.form.constant ≤ℤ pos 0
low_rows ks h k i row j =
    let x = place_of k ks i in
    let y = place_of row k.rows j in
    let here = get_or_from_slice_get ks x.0 k k x.1 in
    let there = get_or_from_slice_get k.rows y.0 row row y.1 in
    let all = subst (λ (c : Comparison). All (λ (r : Row). r.form.constant ≤ℤ pos 0) c.rows) here (h x.0 k (slice_get_within ks x.0 k x.1)) in
    subst (λ (r : Row). r.form.constant ≤ℤ pos 0) there (all y.0 row (slice_get_within k.rows y.0 row y.1))

low_condition : (a : Automaton) (p : Pattern) (v : Vector) → Bare v → (ks : List Comparison)
    → All (λ (k : Comparison). All (λ (row : Row). row.form.constant ≤ℤ pos 0) k.rows) ks → Low (condition_at a p v ks)
low_condition a p v b ks h = low_each (λ (k : Comparison). map (λ (r : Row). form_at a p v r.form) k.rows) ks
    (λ k i. low_map (λ (r : Row). form_at a p v r.form) k.rows (λ row j. omega (arith, ints, form_constant a p v b row.form, low_rows ks h k i row j)))

low_event : (a : Automaton) (p : Pattern) (v : Vector) → Bare v → (o : Option Event) → ((event : Event) → o ≡ Some event → NonePositive event.condition)
    → Low (event_at a p v o)
low_event a p v b None h = λ f i. absurd i
low_event a p v b (Some event) h = low_condition a p v b event.condition.comparisons (h event refl)

low_guard : (a : Automaton) (p : Pattern) (v : Vector) → Bare v → (o : Option Row) → ((row : Row) → o ≡ Some row → row.form.constant ≤ℤ pos 0)
    → Low (guard_at a p v o)
low_guard a p v b None h f i = absurd i
low_guard a p v b (Some row) h f (inl e) = subst (λ (y : UnknownForm). y.constant ≤ℤ pos 0) (sym e)
    (omega (arith, ints, form_constant a p v b row.form, h row refl))
low_guard a p v b (Some row) h f (inr i) = absurd i

-- rows written as lists of coefficients
abbrev LowRows : List LinearRow → Type 0
LowRows rows = (r : LinearRow) → In r rows → r.constant ≤ℤ pos 0

low_linear : (a : Automaton) (ms : List Meaning) (ks : List Comparison) → All (λ (k : Comparison). All (λ (row : Row). row.form.constant ≤ℤ pos 0) k.rows) ks
    → LowRows (condition_rows a ms ks)
low_linear a ms ks h r i =
    let w = from_each (λ (k : Comparison). map (λ (q : Row). form_row a ms q.form) k.rows) ks r i in
    let x = in_map (λ (q : Row). form_row a ms q.form) r (w.0).rows w.2 in
    subst (λ (y : LinearRow). y.constant ≤ℤ pos 0) (sym x.2) (low_rows ks h w.0 w.1 x.0 x.1)

low_start : (a : Automaton) (p : Pattern) → IsCone a p → Low (rows_at_start a p)
low_start a p c =
    let ms = start_meanings a p in
    let count = c.processes in
    low_map form_of_row _ (λ r i. elim (in_append r (condition_rows a ms a.resilience.comparisons) _ i) [
      | inl one ↦ low_linear a ms a.resilience.comparisons c.resilience r one
      | inr more ↦ elim (in_append r (processes_row a ms ∷ opposite (processes_row a ms) ∷ []) (condition_rows a ms p.start.comparisons) more) [
        | inl two ↦ elim two [
          | inl e ↦ subst (λ (y : LinearRow). y.constant ≤ℤ pos 0) (sym e) (omega (arith, ints, count))
          | inr other ↦ elim other [
            | inl e ↦ subst (λ (y : LinearRow). y.constant ≤ℤ pos 0) (sym e) (omega (arith, ints, count))
            | inr none ↦ absurd none
          ]
        ]
        | inr three ↦ low_linear a ms p.start.comparisons c.start r three
      ]
    ])

-- ---- a node
record LowNode (k : Known) : Type 0 where
  pub rows : Low k.rows
  pub moments : (x : ℕ) (m : Moment) → slice_get k.moments x ≡ Some m → Bare (early m) × Bare (late m)

low_first : (a : Automaton) (p : Pattern) → IsCone a p → (candidate : Option ℕ) → LowNode (at_first a p candidate)
low_first a p c candidate =
    let all = range_with_len 0 (length p.events) in
    record {
      rows = low_append (rows_at_start a p) _ (low_start a p c)
          (low_append (flat_map (rows_of_event a p) all) _
          (low_each (rows_of_event a p) all
          (λ e i. low_append (counters_at a p (event_vector a p e)) (event_at a p (event_vector a p e) (slice_get p.events e))
          (low_counters a p (event_vector a p e) (bare_event a p e))
          (low_event a p (event_vector a p e) (bare_event a p e) (slice_get p.events e) (c.events e))))
          (low_append (flat_map (rows_of_after a p) all) (rows_of_end a p candidate)
          (low_each (rows_of_after a p) all
          (λ e i. low_each (λ f. below a p (unknowns_at_first a p) (event_vector a p f) (event_vector a p e)) _
          (λ f j. low_below a p (unknowns_at_first a p) (event_vector a p f) (event_vector a p e) (bare_event a p f) (bare_event a p e))))
          (low_each (λ e. below a p (unknowns_at_first a p) (event_vector a p e) (end_vector a p candidate)) _
          (λ e j. low_below a p (unknowns_at_first a p) (event_vector a p e) (end_vector a p candidate) (bare_event a p e) (bare_end a p candidate)))));
      moments = λ x m at.
          let w = in_map (λ e. Point (event_vector a p e)) m all (in_at _ x m at) in
          subst (λ (y : Moment). Bare (early y) × Bare (late y)) (sym w.2) (bare_event a p w.0, bare_event a p w.0);
    }

low_more : (k : Known) (n : ℕ) (rows : List UnknownForm) → LowNode k → Low rows → LowNode (with_more k n [] rows)
low_more k n rows l h = record {
  rows = low_append k.rows rows l.rows h;
  moments = λ x m at. l.moments x m (subst (λ (ms : List Moment). slice_get ms x ≡ Some m) (append-nil k.moments) at);
}

low_order : (a : Automaton) (p : Pattern) (n : ℕ) (ox oy : Option Moment) → ((x : Moment) → ox ≡ Some x → Bare (early x) × Bare (late x))
    → ((y : Moment) → oy ≡ Some y → Bare (early y) × Bare (late y)) → Low (rows_of_order a p n ox oy)
low_order a p n (Some x) (Some y) h k = low_below a p n (late x) (early y) (h x refl).1 (k y refl).0
low_order a p n (Some x) None h k = λ f i. absurd i
low_order a p n None oy h k = λ f i. absurd i

low_same : (a : Automaton) (p : Pattern) (n : ℕ) (ox oy : Option Moment) → ((x : Moment) → ox ≡ Some x → Bare (early x) × Bare (late x))
    → ((y : Moment) → oy ≡ Some y → Bare (early y) × Bare (late y)) → Low (rows_of_same a p n ox oy)
low_same a p n (Some x) (Some y) h k =
    let q = h x refl in
    let r = k y refl in
    low_append (below a p n (early x) (early y)) _ (low_below a p n (early x) (early y) q.0 r.0)
    (low_append (below a p n (early y) (early x)) _ (low_below a p n (early y) (early x) r.0 q.0)
    (low_append (below a p n (late x) (late y)) (below a p n (late y) (late x)) (low_below a p n (late x) (late y) q.1 r.1)
    (low_below a p n (late y) (late x) r.1 q.1)))
low_same a p n (Some x) None h k = λ f i. absurd i
low_same a p n None oy h k = λ f i. absurd i

-- a guard of a file without fall guards is a rise guard
rise_guard : (a : Automaton) (p : Pattern) → IsCone a p → (g : ℕ) (row : Row) → slice_get (guards a) g ≡ Some row → row.form.constant ≤ℤ pos 0
rise_guard a p c g row at = c.rise g row
    (subst (λ (rows : List Row). slice_get rows g ≡ Some row) (ap (λ (fall : List Row). a.rise ++ fall) c.no_fall ∙ append-nil a.rise) at)

-- so no fact says that it stands or has a last use
rise_alone : (a : Automaton) (p : Pattern) → IsCone a p → (g : ℕ) → g < length a.rise + length a.fall → (fact : Fact)
    → In fact (cond (ltb g (length a.rise)) (Never g ∷ First g ∷ []) (Never g ∷ Stands g ∷ Last g ∷ [])) → (fact ≡ Never g) ⊎ (fact ≡ First g)
rise_alone a p c g less fact i =
    let none : length a.fall ≡ 0 = ap length c.no_fall in
    let low : ltb g (length a.rise) ≡ true = (let b : g < length a.rise = omega arith in grind (arith, nat_tests)) in
    elim (subst (λ (b : Bool). In fact (cond b (Never g ∷ First g ∷ []) (Never g ∷ Stands g ∷ Last g ∷ []))) low i) [
      | inl same ↦ inl same
      | inr more ↦ elim more [ inl same ↦ inr same | inr out ↦ absurd out ]
    ]

low_fact : (a : Automaton) (p : Pattern) → IsCone a p → (candidate : Option ℕ) (k : Known) → LowNode k → (fact : Fact)
    → Exists a p of_events k (question_of fact) → In fact (answers a k (question_of fact)) → LowNode (with_fact a p [] (end_vector a p candidate) k fact)
low_fact a p c candidate k l (Never g) exists allowed = low_more k 0 _ l
    (low_map (λ r. opposite_form (end_vector a p candidate r)) (needing a p g) (λ r i. omega (arith, ints, bare_end a p candidate r)))
low_fact a p c candidate k l (First g) exists allowed =
    let v = first_vector a p k.unknowns g in
    let bare = bare_first a p k.unknowns g in
    record {
      rows = low_append k.rows _ l.rows
          (low_append (counters_at a p v) _ (low_counters a p v bare)
          (low_append (guard_at a p v (slice_get (guards a) g)) _ (low_guard a p v bare (slice_get (guards a) g) (rise_guard a p c g))
          (low_below a p (k.unknowns + length (sparing a p g)) v (end_vector a p candidate) bare (bare_end a p candidate))));
      moments = λ x m at. elim (get_push k.moments (Point v) x m at) [
        | inl old ↦ l.moments x m old
        | inr here ↦ subst (λ (y : Moment). Bare (early y) × Bare (late y)) (sym here.1) (bare, bare)
      ];
    }
low_fact a p c candidate k l (Stands g) exists allowed = elim (rise_alone a p c g exists (Stands g) allowed) [ inl e ↦ cc | inr e ↦ cc ]
low_fact a p c candidate k l (Last g) exists allowed = elim (rise_alone a p c g exists (Last g) allowed) [ inl e ↦ cc | inr e ↦ cc ]
low_fact a p c candidate k l (Before x y) exists allowed = low_more k 0 _ l
    (low_order a p k.unknowns (slice_get k.moments x) (slice_get k.moments y) (l.moments x) (l.moments y))
low_fact a p c candidate k l (After x y) exists allowed = low_more k 0 _ l
    (low_order a p k.unknowns (slice_get k.moments y) (slice_get k.moments x) (l.moments y) (l.moments x))
low_fact a p c candidate k l (Same x y) exists allowed = low_more k 0 _ l
    (low_same a p k.unknowns (slice_get k.moments x) (slice_get k.moments y) (l.moments x) (l.moments y))
low_fact a p c candidate k l (Vacant r) exists allowed = absurd (false≢true exists.0)
low_fact a p c candidate k l (Fails r g) exists allowed = absurd (false≢true exists.0)

low_node : (a : Automaton) (p : Pattern) → IsCone a p → (candidate : Option ℕ) (past : List Fact) → AreAnswers a p of_events candidate past
    → LowNode (known a p [] candidate past)
unfolding known
low_node a p c candidate [] h = low_first a p c candidate
low_node a p c candidate (fact ∷ past) h = low_fact a p c candidate (known a p [] candidate past) (low_node a p c candidate past h.2) fact h.0 h.1

pub none_positive : ConesHaveNoPositiveConstants
none_positive a p c candidate past h = low_all (known a p [] candidate past).rows (low_node a p c candidate past h).rows

-- ---- scales
scaled_is : (scale : ℕ) (numbers : List ℕ) (f : UnknownForm)
    → scaled_value scale numbers f ≡ ((f.constant *ℤ pos scale) +ℤ range_sum (λ u. f.coefficient u *ℤ number numbers u) (length numbers))
unfolding range_sum
scaled_is scale numbers f = refl

expanded : (c s : ℤ) → pos 0 ≤ℤ ((pos 0 -ℤ c) *ℤ (s -ℤ pos 1)) → (c *ℤ s) ≤ℤ c
expanded c s h = let k = simp expand at h in omega (arith, ints, k)

scaled_row : (scale : ℕ) (numbers : List ℕ) (f : UnknownForm) → 1 ≤ scale → f.constant ≤ℤ pos 0 → pos 0 ≤ℤ scaled_value scale numbers f
    → pos 0 ≤ℤ form_value numbers f
scaled_row scale numbers f some low met =
    let least = mul-ge-zero (pos 0 -ℤ f.constant) (pos scale -ℤ pos 1) (omega (arith, ints, low)) (omega (arith, ints, some)) in
    let sum : scaled_value scale numbers f ≡ ((f.constant *ℤ pos scale) +ℤ range_sum (λ u. f.coefficient u *ℤ number numbers u) (length numbers)) = scaled_is
    scale numbers f in
    omega (arith, ints, met, sum, value_is numbers f, expanded f.constant (pos scale) least)

scaled_rows : (scale : ℕ) (numbers : List ℕ) (fs : List UnknownForm) → 1 ≤ scale → AllByRecursion (λ (f : UnknownForm). f.constant ≤ℤ pos 0) fs
    → AllByRecursion (λ f. pos 0 ≤ℤ scaled_value scale numbers f) fs → AllByRecursion (λ f. pos 0 ≤ℤ form_value numbers f) fs
scaled_rows scale numbers [] some low met = tt
scaled_rows scale numbers (f ∷ fs) some low met = (scaled_row scale numbers f some low.0 met.0, scaled_rows scale numbers fs some low.1 met.1)

pub scaled_met : ScaledValuesMeetCones
scaled_met a p c candidate past h scale numbers some met = scaled_rows scale numbers (known a p [] candidate past).rows some
    (none_positive a p c candidate past h) met

-- ---- questions
agrees : (scale : ℕ) (numbers : List ℕ) (f : UnknownForm) → f.constant ≡ pos 0
    → Agrees (Some (record { denominator = pos scale; numbers = map pos numbers })) numbers f
agrees scale numbers f bare z e =
    let none = ap (λ (y : ℤ). y *ℤ pos scale) bare ∙ zero-*ℤ (pos scale) in
    omega (arith, ints, known_scaled (pos scale) numbers f z e, none, bare, value_is numbers f)

pub scaled_left : ScaledQuestionsLeaveNothing
scaled_left a p c candidate past h scale numbers e =
    let values : Values = Some (record { denominator = pos scale; numbers = map pos numbers }) in
    let node : Node = record { candidate = candidate; past = past; bounds = [] } in
    let end = end_vector a p candidate in
    let none = none_asked a p of_events node values e in
    record {
      guards_asked = guard_left a p past values numbers end (λ r. agrees scale numbers (end r) (bare_end a p candidate r)) none.guards_left;
      orders_settled = orders_left a p past values numbers Bare (λ v w bv bw r. agrees scale numbers (minus_form (w r) (v r)) (omega (arith, ints, bv r, bw r)))
          (known a p [] candidate past).moments (low_node a p c candidate past h).moments none.order_none;
      none_enabled = λ rest. absurd (false≢true rest);
    }
