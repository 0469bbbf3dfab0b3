-- the stops of a node are at the positions of its moments
use Rattle.ta_witness.proofs.Common.{◌-◌, In-map, In-numbers, in_numbers, Point, Pair, event_vector, In-left, In-right, place_of, Counts, firings_in, counts_of}
use Rattle.ta_witness.proofs.Common.{all_positions, event_stop, moment_stops, stops_of}
use Rattle.ta_moments.proofs.Common.{◌≡◌, inl, inr, ℕ, zero, suc, ◌+◌, ◌<◌, List, [], ◌∷◌, ◌++◌, map, drop, length, slice_get, Some, arith, sym, ap, ◌∙◌}
use Rattle.ta_moments.proofs.Common.{refl, subst, same_Some, cases_lt, range_with_len, In, in_append, in_at, in_map, Automaton}
use Rattle.ta_moments.proofs.Common.{Pattern, Moment}
use Rattle.ta_base.proofs.Lists.{get_drop}
use Rattle.ta_moments.specs.Nodes.{positions_of}
use Rattle.ta_moments.proofs.Nodes.{early_in, from, late_in}
use Rattle.ta_moments.proofs.Settling.{each_position}
use Rattle.ta_witness.specs.Stops.{Stop, event_stops, plain_stop}
use Rattle.ta_witness.proofs.Walking.{stop_counts, stop_marks}
use Rattle.ta_witness.proofs.Marking.{ByNumber, MarksOwn}

-- ---- the stops of moments
own_stop : (vs : List ℕ) (m : Moment) (u : Counts) → In u (positions_of vs m) → (s : Stop) × In s (moment_stops vs m) × (u ≡ s.counts)
own_stop vs (Point v) u (inl e) = (plain_stop vs v, inl refl, e)
own_stop vs (Point v) u (inr (inl e)) = (plain_stop vs v, inl refl, e)
own_stop vs (Point v) u (inr (inr i)) = absurd i
own_stop vs (Pair v w) u (inl e) = (plain_stop vs v, inl refl, e)
own_stop vs (Pair v w) u (inr (inl e)) = (plain_stop vs w, inr (inl refl), e)
own_stop vs (Pair v w) u (inr (inr i)) = absurd i

stop_own : (vs : List ℕ) (m : Moment) (s : Stop) → In s (moment_stops vs m) → In s.counts (positions_of vs m) × (s.marks ≡ [])
stop_own vs (Point v) s (inl e) = (inl (ap (λ (z : Stop). z.counts) e), ap (λ (z : Stop). z.marks) e)
stop_own vs (Point v) s (inr i) = absurd i
stop_own vs (Pair v w) s (inl e) = (inl (ap (λ (z : Stop). z.counts) e), ap (λ (z : Stop). z.marks) e)
stop_own vs (Pair v w) s (inr (inl e)) = (inr (inl (ap (λ (z : Stop). z.counts) e)), ap (λ (z : Stop). z.marks) e)
stop_own vs (Pair v w) s (inr (inr i)) = absurd i

stop_for : (vs : List ℕ) (ms : List Moment) (m : Moment) (u : Counts) → In m ms → In u (positions_of vs m) → (s : Stop) × In s (stops_of vs ms) × (u ≡ s.counts)
stop_for vs [] m u i j = absurd i
stop_for vs (x ∷ ms) m u (inl e) j =
    let w = own_stop vs x u (subst (λ (y : Moment). In u (positions_of vs y)) e j) in
    (w.0, In-left w.0 (moment_stops vs x) (stops_of vs ms) w.1, w.2)
stop_for vs (x ∷ ms) m u (inr i) j =
    let w = stop_for vs ms m u i j in
    (w.0, In-right w.0 (moment_stops vs x) (stops_of vs ms) w.1, w.2)

pub moment_for : (vs : List ℕ) (ms : List Moment) (s : Stop) → In s (stops_of vs ms) → (m : Moment) × In m ms × In s.counts (positions_of vs m) × (s.marks ≡ [])
moment_for vs [] s i = absurd i
moment_for vs (x ∷ ms) s i = elim (in_append s (moment_stops vs x) (stops_of vs ms) i) [
  | inl j ↦ (let w = stop_own vs x s j in (x, inl refl, w.0, w.1))
  | inr j ↦ (let w = moment_for vs ms s j in (w.0, inr w.1, w.2, w.3))
]

pub in_dropped : (n : ℕ) (ms : List Moment) (m : Moment) → In m (drop n ms) → In m ms
in_dropped zero ms m i = i
in_dropped (suc n) [] m i = i
in_dropped (suc n) (x ∷ ms) m i = inr (in_dropped n ms m i)

-- ---- counts and marks of stops
pub in_counts : (ss : List Stop) (s : Stop) → In s ss → In s.counts (stop_counts ss)
in_counts [] s i = absurd i
in_counts (x ∷ ss) s (inl e) = inl (ap (λ (z : Stop). z.counts) e)
in_counts (x ∷ ss) s (inr i) = inr (in_counts ss s i)

pub counts_in : (ss : List Stop) (u : Counts) → In u (stop_counts ss) → (s : Stop) × In s ss × (u ≡ s.counts)
counts_in [] u i = absurd i
counts_in (x ∷ ss) u (inl e) = (x, inl refl, e)
counts_in (x ∷ ss) u (inr i) = let w = counts_in ss u i in (w.0, inr w.1, w.2)

no_marks : (ss : List Stop) → ((s : Stop) → In s ss → s.marks ≡ []) → stop_marks ss ≡ []
no_marks [] h = refl
no_marks (s ∷ ss) h = ap (λ (es : List ℕ). es ++ stop_marks ss) (h s (inl refl)) ∙ no_marks ss (λ t i. h t (inr i))

no_numbers : (ss : List Stop) → ((s : Stop) → In s ss → s.marks ≡ []) → ByNumber ss
no_numbers [] h = tt
no_numbers (s ∷ ss) h = ((λ m n i j. absurd (subst (In m) (h s (inl refl)) i)), no_numbers ss (λ t i. h t (inr i)))

event_marks : (a : Automaton) (p : Pattern) (vs es : List ℕ) (rest : List Stop) → stop_marks rest ≡ [] → stop_marks (map (event_stop a p vs) es ++ rest) ≡ es
event_marks a p vs [] rest none = none
event_marks a p vs (e ∷ es) rest none = ap (λ (xs : List ℕ). e ∷ xs) (event_marks a p vs es rest none)

event_numbers : (a : Automaton) (p : Pattern) (vs : List ℕ) (k n : ℕ) (rest : List Stop) → stop_marks rest ≡ [] → ByNumber rest
    → ByNumber (map (event_stop a p vs) (range_with_len k n) ++ rest)
event_numbers a p vs k zero rest none h = h
event_numbers a p vs k (suc n) rest none h = (
  (λ x y i j.
      let same : x ≡ k = elim i [ inl e ↦ e | inr q ↦ absurd q ] in
      let later = in_numbers y (k + 1) n (subst (In y) (event_marks a p vs (range_with_len (k + 1) n) rest none) j) in
      let high = later.0 in
      omega (arith, same, high)),
  event_numbers a p vs (k + 1) n rest none h,
)

-- ---- a node's
pub record StopsOf (a : Automaton) (p : Pattern) (vs : List ℕ) (ms : List Moment) (stops : List Stop) : Type 0 where
  pub only : (s : Stop) → In s stops → In s.counts (all_positions vs ms)
  pub has : (u : Counts) → In u (all_positions vs ms) → (s : Stop) × In s stops × (u ≡ s.counts)
  pub marks : stop_marks stops ≡ range_with_len 0 (length p.events)
  pub by_number : ByNumber stops
  pub own : (s : Stop) → In s stops → (rules : List ℕ) → MarksOwn rules (λ e. firings_in rules (counts_of vs (event_vector a p e))) s
  pub event_there : (s : Stop) → In s stops → (e : ℕ) → In e s.marks → s.counts ≡ counts_of vs (event_vector a p e)

pub stops_are : (a : Automaton) (p : Pattern) (vs : List ℕ) (ms : List Moment)
    → ((e : ℕ) → e < length p.events → slice_get ms e ≡ Some (Point (event_vector a p e)))
    → StopsOf a p vs ms (event_stops a p vs ++ stops_of vs (drop (length p.events) ms))
stops_are a p vs ms begins =
    let n = length p.events in
    let events = event_stops a p vs in
    let rest = stops_of vs (drop n ms) in
    let plain : (s : Stop) → In s rest → s.marks ≡ [] = (λ s i. (moment_for vs (drop n ms) s i).3) in
    let none = no_marks rest plain in
    let place : (m : Moment) (u : Counts) → In m ms → In u (positions_of vs m)
    → In u (all_positions vs ms) = (λ m u i j. each_position (λ x. In x (all_positions vs ms)) vs m (early_in vs ms m i) (late_in vs ms m i) u j) in
    record {
      only = λ s i. elim (in_append s events rest i) [
        | inl j ↦ (
            let w = in_map (event_stop a p vs) s (range_with_len 0 n) j in
            let less = (in_numbers w.0 0 n w.1).1 in
            let there = early_in vs ms (Point (event_vector a p w.0)) (in_at ms w.0 (Point (event_vector a p w.0)) (begins w.0 (omega (arith, less)))) in
            subst (λ (u : Counts). In u (all_positions vs ms)) (sym (ap (λ (z : Stop). z.counts) w.2)) there)
        | inr j ↦ (let w = moment_for vs (drop n ms) s j in place w.0 s.counts (in_dropped n ms w.0 w.1) w.2)
      ];
      has = λ u i.
          let w = from vs ms u i in
          let k = place_of w.0 ms w.1 in
          elim (cases_lt k.0 n) [
            | inl less ↦ (
                let same : w.0 ≡ Point (event_vector a p k.0) = same_Some w.0 (Point (event_vector a p k.0)) (sym k.1 ∙ begins k.0 less) in
                let at = each_position (λ x. x ≡ counts_of vs (event_vector a p k.0)) vs (Point (event_vector a p k.0)) refl refl u
                (subst (λ (m : Moment). In u (positions_of vs m)) same w.2) in (
                  event_stop a p vs k.0,
                  In-left (event_stop a p vs k.0) events rest
                      (In-map (event_stop a p vs) k.0 (range_with_len 0 n) (In-numbers k.0 0 n (omega arith) (omega arith))),
                  at,
                ))
            | inr most ↦ (
                let index : k.0 ≡ n + (k.0 - n) = omega arith in
                let there = in_at (drop n ms) (k.0 - n) w.0 (get_drop n ms (k.0 - n) w.0 (ap (slice_get ms) (sym index) ∙ k.1)) in
                let s = stop_for vs (drop n ms) w.0 u there w.2 in
                (s.0, In-right s.0 events rest s.1, s.2))
          ];
      marks = event_marks a p vs (range_with_len 0 n) rest none;
      by_number = event_numbers a p vs 0 n rest none (no_numbers rest plain);
      own = λ s i rules. elim (in_append s events rest i) [
        | inl j ↦ (let w = in_map (event_stop a p vs) s (range_with_len 0 n) j in inr
            (w.0, ap (λ (z : Stop). z.marks) w.2, ap (λ (z : Stop). firings_in rules z.counts) (sym w.2)))
        | inr j ↦ inl (plain s j)
      ];
      event_there = λ s i e j. elim (in_append s events rest i) [
        | inl q ↦ (
            let w = in_map (event_stop a p vs) s (range_with_len 0 n) q in
            let same : e ≡ w.0 = elim (subst (In e) (ap (λ (z : Stop). z.marks) w.2) j) [ inl x ↦ x | inr x ↦ absurd x ] in
            ap (λ (z : Stop). z.counts) w.2 ∙ ap (λ (x : ℕ). counts_of vs (event_vector a p x)) (sym same))
        | inr q ↦ absurd (subst (In e) (plain s q) j)
      ];
    }
