-- at rest, the run of a whole node comes to quiet rest
use Rattle.ta_witness.proofs.Common.{◌-◌, At, value_at, moving_rules, event_vector, end_vector, Node, known_at, of_rest, WholeNode, form_value}
use Rattle.ta_witness.proofs.Common.{get_or_from_slice_get, InScope, Counts, NoneFewer, Rising, firings_in, value_after, counts_of, comparisons_same}
use Rattle.ta_witness.proofs.Common.{all_positions, only_last, sorted_is_chain, Piece, Shows, unit_steps, Run, ComesLast, ComeAfterEarlier, no_counts}
use Rattle.ta_witness.proofs.Common.{node_stops}
use Rattle.ta_moments.proofs.Common.{◌≡◌, inl, inr, ℕ, ◌+◌, ◌<◌, ◌≤◌, List, [], ◌∷◌, length, slice_get, Some, Option, arith, sym, ap, ◌∙◌, refl, subst}
use Rattle.ta_moments.proofs.Common.{same_Some, slice_get_within, get_or, some_at, cases_lt, In, Automaton, Pattern, Event, Config, Holds, Occurs}
use Rattle.ta_moments.proofs.Common.{after_earlier, pattern_within, place_form}
use Rattle.std.specs.Prelude.{set}
use Rattle.std.proofs.lemmas.List.{get_or_past, length-set}
use Rattle.ta_base.proofs.Lists.{get-set_other, get-set_same}
use Rattle.ta_moments.proofs.Knowing.{event_natural}
use Rattle.ta_moments.proofs.Pictures.{value_same}
use Rattle.ta_moments.proofs.Resting.{quiet_there}
use Rattle.ta_replay.proofs.Occurring.{shown_occurs}
use Rattle.ta_replay.specs.Shows.{IsFirstConfig}
use Rattle.ta_rest.proofs.EndingLaws.{end_config, endings_alike, positions_within}
use Rattle.ta_rest.specs.Quiet.{QuietRest}
use Rattle.ta_witness.proofs.Ends.{begins_same, ends_same}
use Rattle.ta_witness.specs.Stops.{Stop, sorted_stops}
use Rattle.ta_witness.specs.Resting.{MomentRunsRest, OccursAtQuietRest}
use Rattle.ta_witness.proofs.Walking.{last_counts, stop_counts}
use Rattle.ta_witness.proofs.Sorting.{sorted_has, sorted_only, sorted_rising}
use Rattle.ta_witness.proofs.Positions.{counts_in, in_counts}
use Rattle.ta_witness.proofs.Showing.{Seen, Walked, run_in, seen, shows_in, walked}
use Rattle.ta_automaton.specs.Runs as runs

-- the last of rising counts is none of the fewer
last_high : (rs : List ℕ) (low : ℕ) (v : Counts) (ss : List Stop) → Rising rs low (stop_counts ss) → (u : Counts) → In u (stop_counts ss)
    → In (last_counts v ss) (stop_counts ss) × (firings_in rs u ≤ firings_in rs (last_counts v ss))
last_high rs low v [] h u i = absurd i
last_high rs low v (s ∷ []) h u (inl e) = (inl refl, let same : firings_in rs u ≡ firings_in rs s.counts = ap (firings_in rs) e in omega (arith, same))
last_high rs low v (s ∷ []) h u (inr i) = absurd i
last_high rs low v (s ∷ t ∷ ss) h u (inl e) =
    let w = last_high rs (firings_in rs s.counts) s.counts (t ∷ ss) h.1 t.counts (inl refl) in
    let same : firings_in rs u ≡ firings_in rs s.counts = ap (firings_in rs) e in
    let next = h.1.0 in
    (inr w.0, omega (arith, same, next, w.1))
last_high rs low v (s ∷ t ∷ ss) h u (inr i) = let w = last_high rs (firings_in rs s.counts) s.counts (t ∷ ss) h.1 u i in (inr w.0, w.1)

-- the last configuration has the values at the last event, holds its condition, and is at quiet rest
record QuietEnd (a : Automaton) (p : Pattern) (silent : List ℕ) (end : Config) : Type 0 where
  rests : QuietRest a silent end
  holds : (last : ℕ) (event : Event) → last + 1 ≡ length p.events → slice_get p.events last ≡ Some event → Holds event.condition end

quiet_end : (a : Automaton) (p : Pattern) → ComeAfterEarlier p → ComesLast p → (silent : List ℕ) (node : Node) (vs : List ℕ)
    → WholeNode a p (of_rest silent) node vs → (h : Seen a p (of_rest silent) node vs) (run : Run) (pieces : List Piece)
    (w : Walked a p (of_rest silent) node vs h run pieces) → QuietEnd a p silent w.end
quiet_end a p earlier l silent node vs whole h run pieces w =
    let asking = of_rest silent in
    let rs = moving_rules a p in
    let stops = node_stops a p asking node vs in
    let sorted = sorted_stops rs stops in
    let pic = h.picture.picture in
    let first = h.picture.begins.first in
    let u = last_counts no_counts sorted in
    let some = l.some in
    let last = length p.events - 1 in
    let is : last + 1 ≡ length p.events = omega (arith, some) in
    let candidate = only_last p l last is node.candidate whole.candidate_is in
    let e = counts_of vs (event_vector a p last) in
    let among = h.picture.happen.among last (omega arith) in
    let mine = h.stops.has e among in
    let listed = subst (λ (x : Counts). In x (stop_counts sorted)) (sym mine.2) (in_counts sorted mine.0 (sorted_has rs stops mine.0 mine.1)) in
    let high = last_high rs 0 no_counts sorted (sorted_rising rs stops) e listed in
    let back = counts_in sorted u high.0 in
    let there = subst (λ (x : Counts). In x (all_positions vs (known_at a p asking node).moments)) (sym back.2)
    (h.stops.only back.0 (sorted_only rs stops back.0 back.1)) in
    let less : NoneFewer rs u e = subst (λ (c : Option ℕ). NoneFewer rs u (counts_of vs (end_vector a p c))) candidate (pic.within u there) in
    let more : NoneFewer rs e u = sorted_is_chain rs e u (pic.comparable e u among there) high.1 in
    let values : (place : ℕ) → value_at w.end place ≡ value_after a p first e place =
    (λ place. w.stands.values place ∙ value_same a p first u e less more place) in
    let forms : (place : ℕ) → value_at w.end place ≡ form_value vs (place_form a p (event_vector a p last) place) =
    (λ place. values place ∙ sym (h.picture.begins.places (event_vector a p last) (event_natural a p vs last) place)) in
    record {
      rests = quiet_there a p earlier silent node vs whole w.end (record { parameters = w.stands.whole.parameters; shared = w.stands.whole.shared })
          w.stands.empty (λ place. subst (λ (c : Option ℕ). value_at w.end place ≡ form_value vs (place_form a p (end_vector a p c) place)) (sym candidate)
          (forms place));
      holds = λ x event at named.
          let same : x ≡ last = omega arith in
          let here : (place : ℕ) → value_after a p first (counts_of vs (event_vector a p x)) place ≡ value_at w.end place =
          (λ place. ap (λ (y : ℕ). value_after a p first (counts_of vs (event_vector a p y)) place) same ∙ sym (values place)) in
          comparisons_same (value_after a p first (counts_of vs (event_vector a p x))) (value_at w.end) here event.condition.comparisons
          (h.picture.happen.holds x event named);
    }

-- an occurrence whose last event happens at its end, too
put_last : (a : Automaton) (p : Pattern) → ComeAfterEarlier p → (first : Config) (rules : List ℕ) (o : Occurs a p first rules) (last : ℕ)
    → last + 1 ≡ length p.events → (c : Config) → At first o.later (length rules) c
    → ((event : Event) → slice_get p.events last ≡ Some event → Holds event.condition c)
    → (new : Occurs a p first rules) × (new.later ≡ o.later) × (get_or new.positions last 0 ≡ length rules)
put_last a p earlier first rules o last is c at holds =
    let inside : last < length o.positions = (let many = o.each_has_one in omega (arith, many, is)) in
    let positions = set o.positions last (length rules) in
    let here : slice_get positions last ≡ Some (length rules) = get-set_same o.positions last (length rules) inside in
    let first_place : get_or positions last 0 ≡ length rules = get_or_from positions last (length rules) here in (
      record {
        later = o.later;
        run = o.run;
        start = o.start;
        kept_empty = o.kept_empty;
        positions = positions;
        each_has_one = length-set o.positions last (length rules) ∙ o.each_has_one;
        happens = λ e event k named place. elim (cases_lt e last) [
          | inl less ↦ o.happens e event k named (sym (get-set_other o.positions last e (length rules) (λ q. absurd (omega (arith, less, q)))) ∙ place)
          | inr most ↦ (
              let b = slice_get_within p.events e event named in
              let same : e ≡ last = omega (arith, b, most, is) in
              let k_is : k ≡ length rules = same_Some k (length rules) (sym place ∙ ap (slice_get positions) same ∙ here) in
              (c, subst (λ (j : ℕ). At first o.later j c) (sym k_is) at, holds event (ap (slice_get p.events) (sym same) ∙ named)))
        ];
        in_order = λ e f event named after.
            let b = slice_get_within p.events e event named in
            let less = earlier e event named f after in
            let other : get_or positions f 0 ≡ get_or o.positions f 0 = get_or_same positions o.positions f
            (get-set_other o.positions last f (length rules) (λ q. absurd (omega (arith, less, b, is, q)))) in
            elim (cases_lt e last) [
              | inl low ↦ (
                  let own : get_or positions e 0 ≡ get_or o.positions e 0 = get_or_same positions o.positions e
                  (get-set_other o.positions last e (length rules) (λ q. absurd (omega (arith, low, q)))) in
                  let old = o.in_order e f event named after in
                  omega (arith, other, own, old))
              | inr high ↦ (
                  let same : e ≡ last = omega (arith, b, high, is) in
                  let own : get_or positions e 0 ≡ length rules = ap (λ (x : ℕ). get_or positions x 0) same ∙ first_place in
                  omega (arith, other, own, positions_within a p first rules o f))
            ];
      },
      refl,
      first_place,
    )
  where
    get_or_from : (xs : List ℕ) (i x : ℕ) → slice_get xs i ≡ Some x → get_or xs i 0 ≡ x
    get_or_from xs i x e = get_or_from_slice_get xs i x 0 e

    get_or_same : (xs ys : List ℕ) (i : ℕ) → slice_get xs i ≡ slice_get ys i → get_or xs i 0 ≡ get_or ys i 0
    get_or_same xs ys i e = elim (cases_lt i (length ys)) [
      | inl b ↦ (let w = some_at ys i b in get_or_from_slice_get xs i w.0 0 (e ∙ w.1) ∙ sym (get_or_from_slice_get ys i w.0 0 w.1))
      | inr b ↦ elim (cases_lt i (length xs)) [
        | inl c ↦ (let w = some_at xs i c in absurd (let d = slice_get_within ys i w.0 (sym e ∙ w.1) in omega (arith, d, b)))
        | inr c ↦ get_or_past xs i 0 c ∙ sym (get_or_past ys i 0 b)
      ]
    ]

occurs_quietly : (a : Automaton) (p : Pattern) (run : Run) → ComeAfterEarlier p → ComesLast p → (silent : List ℕ) (first : Config) → IsFirstConfig a run first
    → (o : Occurs a p first (unit_steps run.lines)) (end : Config) → ((c : Config) → At first o.later (length (unit_steps run.lines)) c → c ≡ end)
    → QuietEnd a p silent end → OccursAtQuietRest a silent p run
occurs_quietly a p run earlier l silent first begins o end ends quiet =
    let rules = unit_steps run.lines in
    let some = l.some in
    let last = length p.events - 1 in
    let is : last + 1 ≡ length p.events = omega (arith, some) in
    let c = end_config a p first rules o in
    let new = put_last a p earlier first rules o last is c.0 c.1
    (λ event named. subst (λ (d : Config). Holds event.condition d) (sym (ends c.0 c.1)) (quiet.holds last event is named)) in
    record {
      first = first;
      begins = begins;
      occurs = record {
        occurs = new.0;
        at_end = λ x e. (let same : x ≡ last = omega arith in ap (λ (y : ℕ). get_or (new.0).positions y 0) same ∙ new.2);
        rests = λ d at. subst (QuietRest a silent) (sym (ends d (subst (λ (later : List Config). At first later (length rules) d) new.1 at))) quiet.rests;
      };
    }

pub runs_rest : MomentRunsRest
runs_rest file scope number silent node vs whole l run r =
    let a = file.automaton in
    let p = whole.pattern in
    let asking = of_rest silent in
    let rules = unit_steps run.lines in
    let within = after_earlier (length a.parameters + length a.shared + length a.locations) (length a.locations) p (pattern_within file number p whole.named) in
    let earlier : ComeAfterEarlier p = (λ e event here f set. within e event here f set) in
    let own = run_in file number asking node vs whole run r in
    let h = seen a p earlier asking node vs whole.whole in
    let w = walked a p scope asking node vs h run own in
    let quiet = quiet_end a p earlier l silent node vs whole.whole h run own.pieces w in
    let ends : (first : Config) → IsFirstConfig a run first → (later : List Config) → runs.Run a first rules later → (c : Config)
    → At first later (length rules) c → c ≡ w.end = (λ first begins later follows c at.
    ends_same a first w.happen.first rules later w.happen.later follows w.happen.follows
    (begins_same a run first w.happen.first follows.initial w.happen.follows.initial begins w.happen.begins) (length rules) c w.end at w.reached) in
    let shown : Shows file run = record {
      pattern = p;
      named = ap (slice_get file.patterns) r.same_pattern
          ∙ whole.named;
      shows = shows_in a p earlier scope asking node vs whole.whole run own;
    } in
    let o = shown_occurs file run shown in
    let here = occurs_quietly a p run earlier l silent shown.shows.first shown.shows.begins o w.end (ends shown.shows.first shown.shows.begins o.later o.run)
    quiet in (
      (λ other c at. subst (QuietRest a silent) (sym (ends other.shows.first other.shows.begins other.shows.later other.shows.follows c at)) quiet.rests),
      here,
      (λ q is. record { first = here.first; begins = here.begins; occurs = (endings_alike (QuietRest a silent) a q p is here.first rules).1 here.occurs }),
    )
