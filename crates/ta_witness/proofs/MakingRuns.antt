-- the run that is made is the node's
use Rattle.ta_witness.proofs.Common.{Asking, Node, Point, event_vector, moving_rules, length-take, known_naturals, Meaning, Parameter, Start, spoken, WholeNode}
use Rattle.ta_witness.proofs.Common.{event_moment, read_of, IsDraft, MomentEncoding, Fits, Run, ComeAfterEarlier, AreNaturals, same_meaning, EncodesSomeWhole}
use Rattle.ta_witness.proofs.Common.{EncodesWhole, RunOfEncoding, StopFits, MomentWithin, shape, start_value, no_counts, node_stops}
use Rattle.ta_moments.proofs.Common.{◌≡◌, ◌≤◌, ℕ, zero, suc, ◌+◌, ℤ, pos, ◌≤ℤ◌, List, [], ◌∷◌, cond, length, map, slice_get, take, Some, arith, sym, ap, ◌∙◌}
use Rattle.ta_moments.proofs.Common.{refl, subst, same_Some, length-map, range_with_len, length-range_with_len, AllByRecursion, Automaton, Pattern, File}
use Rattle.ta_moments.proofs.Common.{after_earlier, pattern_within}
use Rattle.ta_encode.specs.Unknowns.{start_meanings}
use Rattle.ta_moment_tree.specs.declared.moment.Moment.{Moment as CodeMoment}
use Rattle.ta_replay.specs.Replays.{ReplayStays}
unfoldable use Rattle.ta_witness.specs.Values.{unknown_value}
use Rattle.ta_witness.specs.Given.{StaysWithin}
use Rattle.ta_witness.specs.Inside.Stops.{MadeRun, shapes_from, with_shapes}
use Rattle.ta_witness.specs.Stops.{sorted_stops}
use Rattle.ta_witness.specs.declared.stop.Stop.{Stop as CodeStop}
use Rattle.ta_witness.proofs.Bridging.{Pieced, pieced}
use Rattle.ta_witness.proofs.MomentOnce.{one_run}
use Rattle.ta_witness.proofs.Ordering.{AreShapes, Ready, are_stops, moments_ready, node_shapes, stops_fit}
use Rattle.ta_witness.proofs.Showing.{seen}

-- what the encoding says of the file's pattern
record Told (a : Automaton) (p : Pattern) (encoding : MomentEncoding) (asking : Asking) (node : Node) (vs : List ℕ) : Type 0 where
  earlier : ComeAfterEarlier p
  few : length p.events ≤ 8
  whole : WholeNode a p asking node vs
  draft : IsDraft a p asking.silent node.candidate node.past encoding.draft
  starts : encoding.plan.starts ≡ start_meanings a p

told : (file : File) (number : ℕ) (encoding : MomentEncoding) (numbers : List ℤ) (asking : Asking) (node : Node) (vs : List ℕ) (p : Pattern)
    → slice_get file.patterns number ≡ Some p → EncodesWhole file number encoding numbers asking node vs → Told file.automaton p encoding asking node vs
told file number encoding numbers asking node vs p named h =
    let a = file.automaton in
    let q = encoding.plan.task.pattern.now in
    let same : q ≡ p = same_Some q p (sym h.named ∙ named) in
    let within = pattern_within file number p named in
    let earlier = after_earlier (length a.parameters + length a.shared + length a.locations) (length a.locations) p within in
    record {
      earlier = λ e event here f set. earlier e event here f set;
      few = within.events_limit;
      whole = subst (λ (r : Pattern). WholeNode a r asking node vs) same (subst (λ (b : Automaton). WholeNode b q asking node vs) h.automaton h.whole);
      draft = subst (λ (r : Pattern). IsDraft a r asking.silent node.candidate node.past encoding.draft) same
          (subst (λ (b : Automaton). IsDraft b q asking.silent node.candidate node.past encoding.draft) h.automaton h.encodes.draft);
      starts = h.encodes.plan.starts ∙ ap (λ (b : Automaton). start_meanings b q) h.automaton ∙ ap (start_meanings a) same;
    }

shapes_told : (a : Automaton) (p : Pattern) (encoding : MomentEncoding) (asking : Asking) (node : Node) (vs : List ℕ) → Told a p encoding asking node vs
    → AreShapes a p (sorted_stops (moving_rules a p) (node_stops a p asking node vs))
    (with_shapes (shapes_from a p (map pos vs) 0 encoding.draft.moments.items) [])
shapes_told a p encoding asking node vs t =
    let r = read_of a p t.earlier asking node vs t.whole in
    node_shapes a p t.earlier asking node vs t.whole (seen a p t.earlier asking node vs t.whole) encoding.draft t.draft
    (λ e less. r.begins e (Point (event_vector a p e)) (event_moment a p node.candidate e less))

-- ---- what the calls require
pub few_events : (file : File) (number : ℕ) (p : Pattern) → slice_get file.patterns number ≡ Some p → length p.events ≤ 32
few_events file number p named = let few = (pattern_within file number p named).events_limit in omega (arith, few)

each_left : (a : Automaton) (p : Pattern) (vs : List ℕ) (ms : List CodeMoment) → AllByRecursion (Ready a p vs) ms → AllByRecursion (MomentWithin (length vs)) ms
each_left a p vs [] h = tt
each_left a p vs (m ∷ ms) h = (h.0.0, each_left a p vs ms h.1)

pub moments_within : (file : File) (number : ℕ) (encoding : MomentEncoding) (numbers : List ℤ) (p : Pattern) → slice_get file.patterns number ≡ Some p
    → EncodesSomeWhole file number encoding numbers → AllByRecursion (MomentWithin (length numbers)) encoding.draft.moments.items
moments_within file number encoding numbers p named w =
    let t = told file number encoding numbers w.asking w.node w.values p named w.is in
    let size : length w.values ≡ length numbers = sym (length-map w.values pos) ∙ ap (λ (zs : List ℤ). length zs) (sym w.is.are) in
    subst (λ (n : ℕ). AllByRecursion (MomentWithin n) encoding.draft.moments.items) size
    (each_left file.automaton p w.values encoding.draft.moments.items
    (moments_ready file.automaton p t.earlier w.asking w.node w.values t.whole encoding.draft t.draft))

pub starts_within : (file : File) (number : ℕ) (encoding : MomentEncoding) (numbers : List ℤ) (p : Pattern) → slice_get file.patterns number ≡ Some p
    → EncodesSomeWhole file number encoding numbers → length encoding.plan.starts ≤ length numbers
starts_within file number encoding numbers p named w =
    let a = file.automaton in
    let t = told file number encoding numbers w.asking w.node w.values p named w.is in
    let s = spoken a p w.asking.silent w.node.candidate t.whole.candidate_is w.node.past in
    let size : length numbers ≡ length w.values = ap (λ (zs : List ℤ). length zs) w.is.are ∙ length-map w.values pos in
    let starts : length encoding.plan.starts ≡ length (start_meanings a p) = ap (λ (ms : List Meaning). length ms) t.starts in
    omega (arith, s.least, t.whole.count, size, starts)

naturals_front : (n : ℕ) (zs : List ℤ) → AllByRecursion (λ v. pos 0 ≤ℤ v) zs → AllByRecursion (λ v. pos 0 ≤ℤ v) (take n zs)
naturals_front zero zs h = tt
naturals_front (suc n) [] h = tt
naturals_front (suc n) (z ∷ zs) h = (h.0, naturals_front n zs h.1)

pub front_known : (file : File) (number : ℕ) (encoding : MomentEncoding) (numbers : List ℤ) (p : Pattern) → slice_get file.patterns number ≡ Some p
    → EncodesSomeWhole file number encoding numbers → AreNaturals encoding.plan.starts (take (length encoding.plan.starts) numbers)
front_known file number encoding numbers p named w = record {
  count = (let le = starts_within file number encoding numbers p named w in grind (arith, length-take));
  natural = naturals_front (length encoding.plan.starts) numbers (subst (AllByRecursion (λ v. pos 0 ≤ℤ v)) (sym w.is.are) (known_naturals w.values));
}

pub fit_stops : (file : File) (number : ℕ) (encoding : MomentEncoding) (numbers : List ℤ) (p : Pattern) → slice_get file.patterns number ≡ Some p
    → EncodesSomeWhole file number encoding numbers → (stops : List CodeStop)
    → map shape stops ≡ with_shapes (shapes_from file.automaton p numbers 0 encoding.draft.moments.items) [] → AllByRecursion (StopFits file.automaton p) stops
fit_stops file number encoding numbers p named w stops e =
    let a = file.automaton in
    let t = told file number encoding numbers w.asking w.node w.values p named w.is in
    let sorted = sorted_stops (moving_rules a p) (node_stops a p w.asking w.node w.values) in
    let is = e ∙ ap (λ (zs : List ℤ). with_shapes (shapes_from a p zs 0 encoding.draft.moments.items) []) w.is.are in
    stops_fit a p sorted stops (subst (AreShapes a p sorted) (sym is) (shapes_told a p encoding w.asking w.node w.values t))

-- ---- what the run is
front_values : (ms : List Meaning) (zs : List ℤ) (m : Meaning) → unknown_value ms (take (length ms) zs) m ≡ unknown_value ms zs m
unfolding unknown_value
front_values [] zs m = refl
front_values (n ∷ ms) [] m = refl
front_values (n ∷ ms) (z ∷ zs) m = ap (λ x. cond (same_meaning n m) z x) (front_values ms zs m)

map_each : (f g : ℕ → ℤ) (xs : List ℕ) → ((x : ℕ) → f x ≡ g x) → map f xs ≡ map g xs
map_each f g [] h = refl
map_each f g (x ∷ xs) h = ap (λ z. z ∷ map f xs) (h x) ∙ ap (λ (zs : List ℤ). g x ∷ zs) (map_each f g xs h)

value_told : (a : Automaton) (p : Pattern) (ms : List Meaning) (numbers : List ℤ) (vs : List ℕ) (m : Meaning) → ms ≡ start_meanings a p → numbers ≡ map pos vs
    → unknown_value ms (take (length ms) numbers) m ≡ start_value a p vs m
value_told a p ms numbers vs m e f = front_values ms numbers m ∙ ap (λ (ns : List Meaning). unknown_value ns numbers m) e
    ∙ ap (λ (zs : List ℤ). unknown_value (start_meanings a p) zs m) f

made_pieces : (file : File) (number : ℕ) (encoding : MomentEncoding) (numbers : List ℤ) (run : Run) (made : MadeRun file number encoding numbers run)
    (asking : Asking) (node : Node) (vs : List ℕ) → EncodesWhole file number encoding numbers asking node vs
    → Pieced file.automaton made.pattern no_counts
    (sorted_stops (moving_rules file.automaton made.pattern) (node_stops file.automaton made.pattern asking node vs)) [] run.lines
made_pieces file number encoding numbers run made asking node vs h =
    let a = file.automaton in
    let p = made.pattern in
    let t = told file number encoding numbers asking node vs p made.named h in
    let sorted = sorted_stops (moving_rules a p) (node_stops a p asking node vs) in
    let is = made.shapes ∙ ap (λ (zs : List ℤ). with_shapes (shapes_from a p zs 0 encoding.draft.moments.items) []) h.are in
    pieced a p no_counts sorted made.stops [] run.lines
    (are_stops a p sorted made.stops (subst (AreShapes a p sorted) (sym is) (shapes_told a p encoding asking node vs t))) made.lines

pub made_run : (file : File) (number : ℕ) (encoding : MomentEncoding) (numbers : List ℤ) (run : Run) → MadeRun file number encoding numbers run
    → RunOfEncoding file number encoding numbers run
made_run file number encoding numbers run made asking node vs h =
    let a = file.automaton in
    let p = made.pattern in
    let t = told file number encoding numbers asking node vs p made.named h in
    let pieces = made_pieces file number encoding numbers run made asking node vs h in
    record {
      pattern = p;
      named = made.named;
      same_pattern = made.same_pattern;
      parameters = made.parameters.are ∙ map_each _ _ (range_with_len 0 (length a.parameters))
          (λ i. value_told a p encoding.plan.starts numbers vs (Parameter i) t.starts h.are);
      counts = made.counts.are ∙ map_each _ _ a.initial (λ l. value_told a p encoding.plan.starts numbers vs (Start l) t.starts h.are);
      pieces = pieces.pieces;
      are = pieces.are;
      lines = pieces.lines;
    }

pub made_fits : (file : File) (number : ℕ) (encoding : MomentEncoding) (numbers : List ℤ) (run : Run) → EncodesSomeWhole file number encoding numbers
    → MadeRun file number encoding numbers run → Fits file run
made_fits file number encoding numbers run w made =
    let pieces = made_pieces file number encoding numbers run made w.asking w.node w.values w.is in
    record {
      pattern = made.pattern;
      named = ap (slice_get file.patterns) made.same_pattern ∙ made.named;
      parameters = ap (λ (xs : List ℤ). length xs) made.parameters.are ∙ length-map (range_with_len 0 (length file.automaton.parameters)) _
          ∙ length-range_with_len 0 (length file.automaton.parameters);
      parameters_natural = made.parameters.natural;
      counts = ap (λ (xs : List ℤ). length xs) made.counts.are ∙ length-map file.automaton.initial _;
      counts_natural = made.counts.natural;
      lines = subst (AllByRecursion _) (sym pieces.lines) pieces.fit;
    }

-- ---- the run is one
pub same_stays : (file : File) (number : ℕ) (encoding : MomentEncoding) (numbers : List ℤ) (r s : Run) → EncodesSomeWhole file number encoding numbers
    → RunOfEncoding file number encoding numbers r → RunOfEncoding file number encoding numbers s → StaysWithin file encoding numbers s → ReplayStays file r
same_stays file number encoding numbers r s w first second stays =
    subst (ReplayStays file) (one_run file number w.asking w.node w.values s r (second w.asking w.node w.values w.is) (first w.asking w.node w.values w.is))
    stays.replay
