-- the code's stops are a node's
use Rattle.ta_witness.proofs.Common.{In-map, Asking, Node, Point, event_vector, known_at, moving_rules, nat_lt, place_of, below_by, WholeNode, whole_settled}
use Rattle.ta_witness.proofs.Common.{Comparable, firings_in, counts_of, IsDraft, vector_of, ComeAfterEarlier, StopFits, marked, MomentWithin, Shape, is_below}
use Rattle.ta_witness.proofs.Common.{mark_at, moment_shapes, shape, event_stop, listed, moment_stops, node_stops, stops_of}
use Rattle.ta_moments.proofs.Common.{true, false, cond, ◌≡◌, inl, inr, ℕ, zero, suc, ◌+◌, ◌<◌, ◌≤◌, ℤ, pos, ◌≤ℤ◌, List, [], ◌∷◌, ◌++◌, length, map, drop}
use Rattle.ta_moments.proofs.Common.{slice_get, Some, None, Option, arith, sym, ap, ◌∙◌, refl, subst, same_Some, cases_Bool, nat_tests, true≢false}
use Rattle.ta_moments.proofs.Common.{range_with_len, AllByRecursion, In, Automaton, Pattern, Moment, is_moving}
use Rattle.ta_moments.specs.Moments.{Known, Vector, early, is_pair}
use Rattle.ta_moments.specs.Nodes.{IsMoment}
use Rattle.ta_moment_tree.proofs.Fitting.{draft_fits}
use Rattle.ta_moment_tree.specs.Moments.{MomentsSpeak, moment_of, moments_of}
use Rattle.ta_moment_tree.specs.declared.draft.Draft.{Draft}
use Rattle.ta_moment_tree.specs.declared.moment.Moment.{Moment as CodeMoment}
use Rattle.ta_moment_tree.specs.declared.moment.Moment.TheVariants.{Point as CodePoint, Pair as CodePair}
use Rattle.ta_witness.specs.declared.stop.Stop.{Stop as CodeStop}
unfoldable use Rattle.ta_witness.specs.Inside.Stops.{shapes_from, with_shape, with_shapes}
unfoldable use Rattle.ta_witness.specs.Stops.{sorted_stops, with_stop}
use Rattle.ta_witness.specs.Stops.{Stop}
use Rattle.ta_witness.proofs.Bridging.{AreStops}
use Rattle.ta_witness.proofs.Evaluating.{below_same, counts_listed, vector_within}
use Rattle.ta_witness.proofs.Listing.{are_listed, natural_or}
use Rattle.ta_witness.proofs.Placing.{goes_before, goes_behind}
use Rattle.ta_witness.proofs.Showing.{Seen}
use Rattle.ta_witness.proofs.Sorting.{goes_on, sorted_only, stays}

-- ---- what the code has of a stop
abbrev pub IsShape : Automaton → Pattern → Stop → Shape → Type 0
IsShape a p s x = (x.0 ≡ listed a p s.counts) × (marked x.1 ≡ s.marks) × ((e : ℕ) → x.1 ≡ Some e → e < length p.events)

abbrev pub AreShapes : Automaton → Pattern → List Stop → List Shape → Type 0
AreShapes a p [] [] = Unit {0}
AreShapes a p [] (x ∷ xs) = ⊥
AreShapes a p (s ∷ ss) [] = ⊥
AreShapes a p (s ∷ ss) (x ∷ xs) = IsShape a p s x × AreShapes a p ss xs

pub are_stops : (a : Automaton) (p : Pattern) (ss : List Stop) (ys : List CodeStop) → AreShapes a p ss (map shape ys) → AreStops a p ss ys
are_stops a p [] [] h = tt
are_stops a p [] (y ∷ ys) h = absurd h
are_stops a p (s ∷ ss) [] h = absurd h
are_stops a p (s ∷ ss) (y ∷ ys) h = (h.0.0, h.0.1, are_stops a p ss ys h.1)

all_natural : (f : ℕ → ℤ) (rs : List ℕ) → ((r : ℕ) → pos 0 ≤ℤ f r) → AllByRecursion (λ z. pos 0 ≤ℤ z) (map f rs)
all_natural f [] h = tt
all_natural f (r ∷ rs) h = (h r, all_natural f rs h)

pub listed_natural : (a : Automaton) (p : Pattern) (n : ℕ → ℕ) → AllByRecursion (λ z. pos 0 ≤ℤ z) (listed a p n)
listed_natural a p n = all_natural (λ r. cond (is_moving p (slice_get a.rules r)) (pos (n r)) (pos 0)) (range_with_len 0 (length a.rules))
    (λ r. (natural_or (is_moving p (slice_get a.rules r)) (n r)).0)

pub stops_fit : (a : Automaton) (p : Pattern) (ss : List Stop) (ys : List CodeStop) → AreShapes a p ss (map shape ys) → AllByRecursion (StopFits a p) ys
stops_fit a p [] [] h = tt
stops_fit a p [] (y ∷ ys) h = absurd h
stops_fit a p (s ∷ ss) [] h = absurd h
stops_fit a p (s ∷ ss) (y ∷ ys) h = (
  record {
    rules = ap (λ (zs : List ℤ). length zs) h.0.0 ∙ (are_listed a p s.counts).each_rule;
    natural = subst (AllByRecursion (λ z. pos 0 ≤ℤ z)) (sym h.0.0) (listed_natural a p s.counts);
    event = h.0.2;
  },
  stops_fit a p ss ys h.1,
)

shapes_join : (a : Automaton) (p : Pattern) (ss ts : List Stop) (xs ys : List Shape) → AreShapes a p ss xs → AreShapes a p ts ys
    → AreShapes a p (ss ++ ts) (xs ++ ys)
shapes_join a p [] ts [] ys h k = k
shapes_join a p [] ts (x ∷ xs) ys h k = absurd h
shapes_join a p (s ∷ ss) ts [] ys h k = absurd h
shapes_join a p (s ∷ ss) ts (x ∷ xs) ys h k = (h.0, shapes_join a p ss ts xs ys h.1 k)

-- ---- sorted
with_one : (a : Automaton) (p : Pattern) (s : Stop) (x : Shape) (ts : List Stop) (ys : List Shape) → IsShape a p s x → AreShapes a p ts ys
    → ((t : Stop) → In t ts → Comparable (moving_rules a p) s.counts t.counts) → AreShapes a p (with_stop (moving_rules a p) s ts) (with_shape x ys)
unfolding with_stop with_shape
with_one a p s x [] [] is are comparable = (is, tt)
with_one a p s x [] (y ∷ ys) is are comparable = absurd are
with_one a p s x (t ∷ ts) [] is are comparable = absurd are
with_one a p s x (t ∷ ts) (y ∷ ys) is are comparable =
    let rs = moving_rules a p in
    let test : is_below y.0 x.0 ≡ nat_lt (firings_in rs t.counts) (firings_in rs s.counts) = ap (λ (zs : List ℤ). is_below zs x.0) are.0.0
    ∙ ap (is_below (listed a p t.counts)) is.0 ∙ below_same a p t.counts s.counts (comparable t (inl refl)) in
    elim (cases_Bool (nat_lt (firings_in rs t.counts) (firings_in rs s.counts))) [
      | inl e ↦ subst (AreShapes a p (with_stop rs s (t ∷ ts))) (sym (goes_behind x y ys (test ∙ e)))
          (subst (λ (us : List Stop). AreShapes a p us (y ∷ with_shape x ys)) (sym (goes_on rs s t ts e))
          (are.0, with_one a p s x ts ys is are.1 (λ u i. comparable u (inr i))))
      | inr e ↦ subst (AreShapes a p (with_stop rs s (t ∷ ts))) (sym (goes_before x y ys (test ∙ e)))
          (subst (λ (us : List Stop). AreShapes a p us (x ∷ y ∷ ys)) (sym (stays rs s t ts e)) (is, are))
    ]

sorted_shapes : (a : Automaton) (p : Pattern) (ss : List Stop) (xs : List Shape) → AreShapes a p ss xs
    → ((s t : Stop) → In s ss → In t ss → Comparable (moving_rules a p) s.counts t.counts)
    → AreShapes a p (sorted_stops (moving_rules a p) ss) (with_shapes xs [])
unfolding sorted_stops with_shapes
sorted_shapes a p [] [] are comparable = tt
sorted_shapes a p [] (x ∷ xs) are comparable = absurd are
sorted_shapes a p (s ∷ ss) [] are comparable = absurd are
sorted_shapes a p (s ∷ ss) (x ∷ xs) are comparable =
    with_one a p s x (sorted_stops (moving_rules a p) ss) (with_shapes xs []) are.0 (sorted_shapes a p ss xs are.1 (λ u t i j. comparable u t (inr i) (inr j)))
    (λ t i. comparable s t (inl refl) (inr (sorted_only (moving_rules a p) ss t i)))

-- ---- marks
less_test : (k n : ℕ) → k < n → nat_lt k n ≡ true
less_test k n h = elim (cases_Bool (nat_lt k n)) [ inl e ↦ e | inr e ↦ grind (arith, nat_tests) ]

most_test : (k n : ℕ) → n ≤ k → nat_lt k n ≡ false
most_test k n h = elim (cases_Bool (nat_lt k n)) [ inl e ↦ absurd (let w = below_by k n (nat_lt k n) refl e in omega (arith, w, h)) | inr e ↦ e ]

is_mark : (p : Pattern) (k : ℕ) → k < length p.events → mark_at p k ≡ Some k
is_mark p k h = ap (λ b. cond b (Some k) None) (less_test k (length p.events) h)

no_mark : (p : Pattern) (k : ℕ) → length p.events ≤ k → mark_at p k ≡ None
no_mark p k h = ap (λ b. cond b (Some k) None) (most_test k (length p.events) h)

no_event : (e : ℕ) (o : Option ℕ) → o ≡ None → o ≡ Some e → ⊥
no_event e o none some = absurd (cc)

-- ---- a node's
abbrev pub Ready : Automaton → Pattern → List ℕ → CodeMoment → Type 0
Ready a p vs m = MomentWithin (length vs) m × IsMoment a p vs (moment_of m)

plain_shapes : (a : Automaton) (p : Pattern) (vs : List ℕ) (k : ℕ) (m : CodeMoment) → length p.events ≤ k → Ready a p vs m
    → AreShapes a p (moment_stops vs (moment_of m)) (moment_shapes a p (map pos vs) k m)
plain_shapes a p vs k (CodePoint v) le r =
    ((counts_listed a p vs v.items r.0 r.1.early_natural, ap marked (no_mark p k le), λ e h. absurd (no_event e (mark_at p k) (no_mark p k le) h)), tt)
plain_shapes a p vs k (CodePair v w) le r = (
  (counts_listed a p vs v.items r.0.0 r.1.early_natural, refl, λ e h. absurd (no_event e None refl h)),
  ((counts_listed a p vs w.items r.0.1 r.1.late_natural, refl, λ e h. absurd (no_event e None refl h)), tt),
)

rest_shapes : (a : Automaton) (p : Pattern) (vs : List ℕ) (k : ℕ) (ms : List CodeMoment) → length p.events ≤ k → AllByRecursion (Ready a p vs) ms
    → AreShapes a p (stops_of vs (moments_of ms)) (shapes_from a p (map pos vs) k ms)
unfolding shapes_from
rest_shapes a p vs k [] le r = tt
rest_shapes a p vs k (m ∷ ms) le r = shapes_join a p (moment_stops vs (moment_of m)) (stops_of vs (moments_of ms)) (moment_shapes a p (map pos vs) k m)
    (shapes_from a p (map pos vs) (k + 1) ms) (plain_shapes a p vs k m le r.0) (rest_shapes a p vs (k + 1) ms (omega (arith, le)) r.1)

abbrev Begins : Automaton → Pattern → ℕ → ℕ → List CodeMoment → Type 0
Begins a p j k ms = (i : ℕ) → i < j → slice_get (moments_of ms) i ≡ Some (Point (event_vector a p (k + i)))

event_shapes : (a : Automaton) (p : Pattern) (vs : List ℕ) (j k : ℕ) (ms : List CodeMoment) → k + j ≡ length p.events → Begins a p j k ms
    → AllByRecursion (Ready a p vs) ms → AreShapes a p (map (event_stop a p vs) (range_with_len k j) ++ stops_of vs (drop j (moments_of ms)))
    (shapes_from a p (map pos vs) k ms)
unfolding shapes_from
event_shapes a p vs zero k ms many begins r = rest_shapes a p vs k ms (omega (arith, many)) r
event_shapes a p vs (suc j) k [] many begins r = absurd (let w = begins 0 (omega arith) in cc)
event_shapes a p vs (suc j) k (CodePair v w ∷ ms) many begins r = absurd (true≢false (ap is_pair (same_Some _ _ (begins 0 (omega arith)))))
event_shapes a p vs (suc j) k (CodePoint v ∷ ms) many begins r =
    let here : vector_of v.items ≡ event_vector a p k = ap early (same_Some _ _ (begins 0 (omega arith)))
    ∙ ap (event_vector a p) (let e : k + 0 ≡ k = omega arith in e) in
    let less : k < length p.events = omega (arith, many) in (
      (
        counts_listed a p vs v.items r.0.0 r.0.1.early_natural
            ∙ ap (λ (u : Vector). listed a p (counts_of vs u)) here,
        ap marked (is_mark p k less),
        λ e h.
            (let same : k ≡ e = same_Some k e (sym (is_mark p k less) ∙ h) in omega (arith, same, less)),
      ),
      event_shapes a p vs j (k + 1) ms (omega (arith, many))
          (λ i b. begins (suc i) (omega (arith, b)) ∙ ap (λ (n : ℕ). Some (Point (event_vector a p n))) (let e : k + suc i ≡ k + 1 + i = omega arith in e)) r.1,
    )

-- ---- its moments
each_in : (P : CodeMoment → Type 0) (ms : List CodeMoment) → ((m : CodeMoment) → In m ms → P m) → AllByRecursion P ms
each_in P [] h = tt
each_in P (m ∷ ms) h = (h m (inl refl), each_in P ms (λ n i. h n (inr i)))

moment_within : (n : ℕ) (ms : List Moment) (x : ℕ) (m : CodeMoment) → MomentsSpeak n ms → slice_get ms x ≡ Some (moment_of m) → MomentWithin n m
moment_within n ms x (CodePoint v) s at = vector_within n v.items (λ r. s.early_speaks x _ at r)
moment_within n ms x (CodePair v w) s at = (vector_within n v.items (λ r. s.early_speaks x _ at r), vector_within n w.items (λ r. s.late_speaks x _ at r))

pub moments_ready : (a : Automaton) (p : Pattern) → ComeAfterEarlier p → (asking : Asking) (node : Node) (vs : List ℕ) → WholeNode a p asking node vs
    → (draft : Draft) → IsDraft a p asking.silent node.candidate node.past draft → AllByRecursion (Ready a p vs) draft.moments.items
moments_ready a p earlier asking node vs w draft is =
    let ms = draft.moments.items in
    let fits = draft_fits a p asking.silent node.candidate node.past draft w.candidate_is is in
    let settled = whole_settled a p earlier asking node vs w in
    let known : moments_of ms ≡ (known_at a p asking node).moments = ap (λ (k : Known). k.moments) is.known in
    let many : draft.unknowns ≡ length vs = ap (λ (k : Known). k.unknowns) is.known ∙ sym w.count in
    let speaks = subst (λ (n : ℕ). MomentsSpeak n (moments_of ms)) many fits.moments_speak in
    each_in (Ready a p vs) ms (λ m i.
    let there : In (moment_of m) (moments_of ms) = In-map moment_of m ms i in
    let at = place_of (moment_of m) (moments_of ms) there in
    (moment_within (length vs) (moments_of ms) at.0 m speaks at.1, settled.each (moment_of m) (subst (λ (ns : List Moment). In (moment_of m) ns) known there)))

pub node_shapes : (a : Automaton) (p : Pattern) → ComeAfterEarlier p → (asking : Asking) (node : Node) (vs : List ℕ) → WholeNode a p asking node vs
    → (seen : Seen a p asking node vs) → (draft : Draft) → IsDraft a p asking.silent node.candidate node.past draft
    → ((e : ℕ) → e < length p.events → slice_get (known_at a p asking node).moments e ≡ Some (Point (event_vector a p e)))
    → AreShapes a p (sorted_stops (moving_rules a p) (node_stops a p asking node vs)) (with_shapes (shapes_from a p (map pos vs) 0 draft.moments.items) [])
node_shapes a p earlier asking node vs w seen draft is begins =
    let ms = draft.moments.items in
    let known : moments_of ms ≡ (known_at a p asking node).moments = ap (λ (k : Known). k.moments) is.known in
    let ready = moments_ready a p earlier asking node vs w draft is in
    let shapes = event_shapes a p vs (length p.events) 0 ms (omega arith)
    (λ i b. ap (λ (ns : List Moment). slice_get ns i) known ∙ begins i b
    ∙ ap (λ (n : ℕ). Some (Point (event_vector a p n))) (let e : i ≡ 0 + i = omega arith in e)) ready in
    let own = subst (λ (ns : List Moment). AreShapes a p
    (map (event_stop a p vs) (range_with_len 0 (length p.events)) ++ stops_of vs (drop (length p.events) ns)) (shapes_from a p (map pos vs) 0 ms)) known
    shapes in
    sorted_shapes a p (node_stops a p asking node vs) (shapes_from a p (map pos vs) 0 ms) own
    (λ s t i j. seen.picture.picture.comparable s.counts t.counts (seen.stops.only s i) (seen.stops.only t j))
