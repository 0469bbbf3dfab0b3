-- what a solution says at a moment
use Rattle.ta_encode.proofs.Common.{◌≡◌, inl, inr, ℕ, zero, suc, ◌+◌, ◌-◌, ◌^◌, ◌<◌, ℤ, pos, ◌+ℤ◌, ◌≤ℤ◌, List, [], ◌∷◌, ◌++◌, map, length, drop, cond, Bool}
use Rattle.ta_encode.proofs.Common.{true, false, not, arith, sym, ap, ◌∙◌, refl, subst, slice_get, Some, All, ints, false≢true, not_from_false, one_times}
use Rattle.ta_encode.proofs.Common.{In-filter, in_append, in_more, In-numbers, value_of, RowHolds, Form, Row, Comparison, Automaton, Pattern, Config, value_at}
use Rattle.ta_encode.proofs.Common.{has_bit, range_with_len, In, Element, Event, Rise, Fall, may_fire, allowed_rules, children, is_complete, is_ready}
use Rattle.ta_encode.proofs.Common.{is_standing, may_rise, Meaning, place_coefficient, location_place, LinearRow, form_row, counter_row, counter_rows}
use Rattle.ta_encode.proofs.Common.{condition_rows, guard_rows, sum_of_products, row_value, AllHold, total, terms_value-same, in_filter, each_append}
use Rattle.ta_encode.proofs.Common.{length-append, replicate, filter}
use Rattle.ta_base.proofs.Totals.{total-append, total-replicate}
use Rattle.std.proofs.lemmas.List.{length-replicate}
use Rattle.ta_base.proofs.Each.{each_copies}
use Rattle.std.proofs.Math.IntN.{*ℤ_comm}
use Rattle.ta_encode.proofs.Moments.{AllHold-left}
use Rattle.ta_encode.proofs.Combine.{combine-terms}
use Rattle.ta_encode.proofs.Segment.{EachMay}

-- the value of a place
abbrev pub place_value : Automaton → List Meaning → List ℕ → ℕ → ℤ
place_value a ms vs i = sum_of_products (map (λ m. place_coefficient a m i) ms) vs

pub form_at : (a : Automaton) (ms : List Meaning) (vs : List ℕ) (f : Form) → row_value vs (form_row a ms f) ≡ value_of (place_value a ms vs) f
form_at a ms vs f = ap (λ z. f.constant +ℤ z) (combine-terms (place_coefficient a) ms vs f.terms)

pub AllHold-right : (vs : List ℕ) (xs ys : List LinearRow) → AllHold vs (xs ++ ys) → AllHold vs ys
AllHold-right vs [] ys h = h
AllHold-right vs (x ∷ xs) ys h = AllHold-right vs xs ys h.1

held_map : {X : Type 0} (vs : List ℕ) (f : X → LinearRow) (xs : List X) (x : X) → AllHold vs (map f xs) → In x xs → pos 0 ≤ℤ row_value vs (f x)
held_map vs f [] x h i = absurd i
held_map vs f (y ∷ xs) x h (inl e) = subst (λ z. pos 0 ≤ℤ row_value vs (f z)) (sym e) h.0
held_map vs f (y ∷ xs) x h (inr i) = held_map vs f xs x h.1 i

pub counter_natural : (a : Automaton) (p : Pattern) (ms : List Meaning) (vs : List ℕ) → AllHold vs (counter_rows a p ms) → (l : ℕ) → l < length a.locations
    → has_bit p.empty l ≡ false → pos 0 ≤ℤ place_value a ms vs (location_place a l)
counter_natural a p ms vs h l b f =
    let r = held_map vs (counter_row a ms) (filter (λ k. not (has_bit p.empty k)) (range_with_len 0 (length a.locations))) l h
    (In-filter (λ k. not (has_bit p.empty k)) l (range_with_len 0 (length a.locations)) (not_from_false _ f)
    (In-numbers l 0 (length a.locations) (omega arith) (omega arith))) in
    omega (arith, ints, r)

held_true : (vs : List ℕ) (b : Bool) (x : LinearRow) (xs : List LinearRow) → b ≡ true → AllHold vs (cond b (x ∷ xs) xs) → pos 0 ≤ℤ row_value vs x
held_true vs true x xs e h = h.0
held_true vs false x xs e h = absurd (false≢true e)

held_rest : (vs : List ℕ) (b : Bool) (x : LinearRow) (xs : List LinearRow) → AllHold vs (cond b (x ∷ xs) xs) → AllHold vs xs
held_rest vs true x xs h = h.1
held_rest vs false x xs h = h

pub guard_holds : (a : Automaton) (ms : List Meaning) (vs : List ℕ) (test : ℕ → Bool) (k : ℕ) (rows : List Row) → AllHold vs (guard_rows a ms test k rows)
    → (j : ℕ) (row : Row) → slice_get rows j ≡ Some row → test (k + j) ≡ true → pos 0 ≤ℤ value_of (place_value a ms vs) row.form
guard_holds a ms vs test k [] h j row at t = absurd (cc)
guard_holds a ms vs test k (r ∷ rs) h zero row at t =
    let same : r ≡ row = cc in
    let e : k + 0 ≡ k = omega arith in
    let held = held_true vs (test k) (form_row a ms r.form) (guard_rows a ms test (k + 1) rs) (ap test (sym e) ∙ t) h in
    subst (λ (x : Row). pos 0 ≤ℤ value_of (place_value a ms vs) x.form) same (omega (arith, ints, held, form_at a ms vs r.form))
guard_holds a ms vs test k (r ∷ rs) h (suc j) row at t =
    guard_holds a ms vs test (k + 1) rs (held_rest vs (test k) (form_row a ms r.form) (guard_rows a ms test (k + 1) rs) h) j row at
    (let e : k + 1 + j ≡ k + suc j = omega arith in ap test e ∙ t)

rows_back : (a : Automaton) (ms : List Meaning) (vs : List ℕ) (d : Config) → ((i : ℕ) → value_at d i ≡ place_value a ms vs i) → (rows : List Row)
    → AllHold vs (map (λ (r : Row). form_row a ms r.form) rows) → All (RowHolds (value_at d)) rows
rows_back a ms vs d same [] h k e b = absurd (omega arith)
rows_back a ms vs d same (r ∷ rs) h zero e b =
    let first : pos 0 ≤ℤ row_value vs (form_row a ms r.form) = h.0 in
    omega (arith, ints, first, form_at a ms vs r.form, terms_value-same r.form.terms (value_at d) (place_value a ms vs) same)
rows_back a ms vs d same (r ∷ rs) h (suc k) e b = rows_back a ms vs d same rs h.1 k e (omega arith)

pub condition_back : (a : Automaton) (ms : List Meaning) (vs : List ℕ) (d : Config) → ((i : ℕ) → value_at d i ≡ place_value a ms vs i) → (ks : List Comparison)
    → AllHold vs (condition_rows a ms ks) → All (λ (k : Comparison). All (RowHolds (value_at d)) k.rows) ks
condition_back a ms vs d same [] h k e b = absurd (omega arith)
condition_back a ms vs d same (c ∷ cs) h zero e b = rows_back a ms vs d same c.rows
    (AllHold-left vs (map (λ (r : Row). form_row a ms r.form) c.rows) (condition_rows a ms cs) h)
condition_back a ms vs d same (c ∷ cs) h (suc k) e b = condition_back a ms vs d same cs
    (AllHold-right vs (map (λ (r : Row). form_row a ms r.form) c.rows) (condition_rows a ms cs) h) k e (omega arith)

pub combine-split : {X : Type 0} (g : X → ℤ) (ms ns : List X) (vs : List ℕ)
    → sum_of_products (map g (ms ++ ns)) vs ≡ (sum_of_products (map g ms) vs +ℤ sum_of_products (map g ns) (drop (length ms) vs))
unfolding sum_of_products
combine-split g [] ns vs = omega (arith, ints)
combine-split g (m ∷ ms) [] [] = omega (arith, ints)
combine-split g (m ∷ ms) (n ∷ ns) [] = omega (arith, ints)
combine-split g (m ∷ ms) ns (v ∷ vs) = omega (arith, ints, combine-split g ms ns vs)

-- each rule as often as its value says
abbrev pub unfolded : List ℕ → List ℕ → List ℕ
unfolded [] vs = []
unfolded (r ∷ rs) [] = []
unfolded (r ∷ rs) (v ∷ vs) = replicate v r ++ unfolded rs vs

pub unfolded-total : {X : Type 0} (g : X → ℤ) (k : ℕ → X) (rs vs : List ℕ) → total (λ r. g (k r)) (unfolded rs vs) ≡ sum_of_products (map g (map k rs)) vs
unfolding total sum_of_products
unfolded-total g k [] vs = refl
unfolded-total g k (r ∷ rs) [] = refl
unfolded-total g k (r ∷ rs) (v ∷ vs) = omega (
  arith,
  ints,
  total-append (λ x. g (k x)) (replicate v r) (unfolded rs vs),
  total-replicate (λ x. g (k x)) v r,
  *ℤ_comm (pos v) (g (k r)),
  unfolded-total g
      k rs vs,
)

pub unfolded-count : (rs vs : List ℕ) → pos (length (unfolded rs vs)) ≡ sum_of_products (map (λ r. pos 1) rs) vs
unfolding total sum_of_products
unfolded-count [] vs = refl
unfolded-count (r ∷ rs) [] = refl
unfolded-count (r ∷ rs) (v ∷ vs) = omega
    (arith, ints, length-append (replicate v r) (unfolded rs vs), length-replicate v r, unfolded-count rs vs, one_times (pos v))

pub unfolded-may : (a : Automaton) (p : Pattern) (start : ℕ) (past : List Element) (rs vs : List ℕ) → EachMay a p start past rs
    → EachMay a p start past (unfolded rs vs)
unfolded-may a p start past [] vs h = tt
unfolded-may a p start past (r ∷ rs) [] h = tt
unfolded-may a p start past (r ∷ rs) (v ∷ vs) h = each_append (λ o. may_fire a p start past (slice_get a.rules o) ≡ true) (replicate v r) (unfolded rs vs)
    (each_copies (λ o. may_fire a p start past (slice_get a.rules o) ≡ true) v r h.0) (unfolded-may a p start past rs vs h.1)

kept_may : (a : Automaton) (p : Pattern) (start : ℕ) (past : List Element) (r : ℕ) (xs : List ℕ) (b : Bool) → may_fire a p start past (slice_get a.rules r) ≡ b
    → EachMay a p start past xs → EachMay a p start past (cond b (r ∷ xs) xs)
kept_may a p start past r xs true e h = (e, h)
kept_may a p start past r xs false e h = h

filter_may : (a : Automaton) (p : Pattern) (start : ℕ) (past : List Element) (xs : List ℕ)
    → EachMay a p start past (filter (λ r. may_fire a p start past (slice_get a.rules r)) xs)
filter_may a p start past [] = tt
filter_may a p start past (r ∷ xs) = kept_may a p start past r (filter (λ k. may_fire a p start past (slice_get a.rules k)) xs)
    (may_fire a p start past (slice_get a.rules r)) refl (filter_may a p start past xs)

pub allowed_may : (a : Automaton) (p : Pattern) (start : ℕ) (past : List Element) → EachMay a p start past (allowed_rules a p start past)
unfolding allowed_rules
allowed_may a p start past = filter_may a p start past (range_with_len 0 (length a.rules))

same_event : (e f : ℕ) → Event e ≡ Event f → e ≡ f
same_event e f q = cc

in_events : (e : ℕ) (xs : List ℕ) → In (Event e) (map Event xs) → In e xs
in_events e [] h = absurd h
in_events e (x ∷ xs) (inl q) = inl (same_event e x q)
in_events e (x ∷ xs) (inr h) = inr (in_events e xs h)

no_rise : (e : ℕ) (xs : List ℕ) → In (Event e) (map Rise xs) → ⊥
no_rise e [] h = h
no_rise e (x ∷ xs) (inl q) = cc
no_rise e (x ∷ xs) (inr h) = no_rise e xs h

no_fall : (e : ℕ) (xs : List ℕ) → In (Event e) (map Fall xs) → ⊥
no_fall e [] h = h
no_fall e (x ∷ xs) (inl q) = cc
no_fall e (x ∷ xs) (inr h) = no_fall e xs h

pub event_ready : (a : Automaton) (p : Pattern) (pairs : List (ℕ × ℕ)) (start : ℕ) (past : List Element) (e : ℕ) → In (Event e) (children a p pairs start past)
    → is_ready p past e ≡ true
unfolding children
event_ready a p pairs start past e h =
    let es = map Event (filter (is_ready p past) (range_with_len 0 (length p.events))) in
    let rs = map Rise (filter (may_rise pairs past) (range_with_len 0 (length a.rise))) in
    let fs = map Fall (filter (is_standing a start past) (range_with_len 1 (2 ^ length a.fall - 1))) in
    elim (in_append (Event e) es (rs ++ fs) (in_more (Event e) (is_complete p past) (es ++ (rs ++ fs)) h)) [
      | inl i ↦ (in_filter (is_ready p past) e (range_with_len 0 (length p.events)) (in_events e _ i)).0
      | inr i ↦ elim (in_append (Event e) rs fs i) [ inl j ↦ absurd (no_rise e _ j) | inr j ↦ absurd (no_fall e _ j) ]
    ]
