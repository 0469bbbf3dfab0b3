-- reordering: a run in which a pattern occurs gives a complete legal word whose system has a solution
--
-- Shared variables never fall. So along a run each rise guard turns true at most once, and each fall guard turns false at most once:
-- the run is cut at finitely many moments, those of these switches and those of the pattern's events. Between two moments every
-- guard keeps its value, and no row of the system sees in what order the rules fire there, but only how often each does. These
-- numbers are the values of the Counts of the element that ends the stretch, so a word with values describes runs of any length.
--
-- The proof walks along the run and keeps a `State`: a word with values that solve its rows, and the steps since its last element.
-- The word allows each of these steps, because it has the rise guards that hold by then, and no fall guard that still holds has fallen
-- in it; a self-loop changes nothing and is left out. What switches or happens at a configuration becomes elements, in one order for
-- all runs: first a Fall, whose Single is the step that leads there; then the rise guards, in an order that keeps the given pairs,
-- where a guard that implies another comes behind it; then the events, those of a lower number first. Each new row holds, because
-- the configuration at its moment meets it. With the last event the word is complete, and what is left of the run is dropped.
use Rattle.ta_encode.proofs.Common.{◌≡◌, ◌⊎◌, inl, inr, ℕ, zero, suc, ◌+◌, ◌-◌, ◌^◌, ◌<◌, ◌≤◌, pos, ◌≤ℤ◌, ◌<ℤ◌, List, [], ◌∷◌, ◌++◌, length, eqb, true, arith}
use Rattle.ta_encode.proofs.Common.{sym, ap, ◌∙◌, refl, subst, slice_get, get_or, Some, IsBitSet, append-nil, ints, false≢true, cases_Bool, and_from, eq-eqb}
use Rattle.ta_encode.proofs.Common.{eqb-true, or_cases, cases_lt, not_from_false, or_left, or_right, eqb_tells, slice_get_within, slice_get-get_or, same_Some}
use Rattle.ta_encode.proofs.Common.{all_below-at, all_below-from, bit_set, implies-from, each_in, is_negative, negative_false, negative_true, some_at}
use Rattle.ta_encode.proofs.Common.{mask_of-below, In-numbers, in_numbers, value_of, RowHolds, Automaton, Pattern, Config, value_at, Holds, Steps, LoopsPure}
use Rattle.ta_encode.proofs.Common.{Occurs, has_bit, implies, range_with_len, In, Good, IsPair, RiseHolds, Element, Event, Rise, LegalUnder, has_event}
use Rattle.ta_encode.proofs.Common.{has_fallen, has_rise, is_complete, is_due, is_ready, follows, AllHold, word_rows, SolvesWord, EndsAt, total, Fits}
use Rattle.ta_automaton.specs.declared.pattern.Event.{Event as PatternEvent}
use Rattle.ta_implied.specs.Orders.{GuardsInOrder, LeadsSome}
use Rattle.ta_implied.proofs.Implying.{guards_come_after}
use Rattle.ta_implied.proofs.Ordering.{ordered}
use Rattle.ta_words.proofs.Pairs.{due_from}
use Rattle.ta_encode.proofs.Moments.{AllHold-append}
use Rattle.ta_encode.proofs.State.{State, counts_of, push_rise, push_event}
use Rattle.ta_encode.proofs.Start.{row_fails, start_state, start_set, parameter_values, start_counts}
use Rattle.ta_encode.proofs.Switch.{KeptEmpty, Begins, begins_more, Seen, Stage, after_step}

-- events come after earlier ones alone
abbrev pub AfterEarlier : Pattern → Type 0
AfterEarlier p = (e : ℕ) (event : PatternEvent) → slice_get p.events e ≡ Some event → (f : ℕ) → IsBitSet event.after f → f < e

-- a state with a complete word
pub record Found (a : Automaton) (p : Pattern) (pairs : List (ℕ × ℕ)) (start : ℕ) (origin : List ℕ) (configs : List Config) (positions : List ℕ) : Type 0 where
  pub past : List Element
  pub vs : List ℕ
  pub fired : List ℕ
  pub config : Config
  pub state : State a p pairs start past vs fired config
  pub begins : Begins origin vs
  pub complete : is_complete p past ≡ true
  pub ends : (past ≡ []) ⊎ EndsAt a p start past vs configs positions

-- all rise guards, in an order that keeps good pairs
pub record InTurn (a : Automaton) (pairs : List (ℕ × ℕ)) (all : List ℕ) : Type 0 where
  pub good : Good a pairs
  pub in_order : GuardsInOrder pairs all
  pub each : (i : ℕ) → i < length a.rise → In i all
  pub within : (i : ℕ) → In i all → i < length a.rise

-- where a guard holds and is the next in such an order, those before it are in the word
next_due : (a : Automaton) (p : Pattern) (pairs : List (ℕ × ℕ)) (start : ℕ) (origin : List ℕ) (done begun : ℕ → Type 0) (d : Config) (x : ℕ) (xs : List ℕ)
    → Good a pairs → GuardsInOrder pairs (x ∷ xs) → (g : Stage a p pairs start origin done begun d (x ∷ xs)) → RiseHolds a d x → is_due pairs g.past x ≡ true
next_due a p pairs start origin done begun d x xs good in_order g holds = due_from pairs g.past x
    (λ j m. elim (g.rises j (each_in (IsPair a) pairs (j, x) good.pairs_are m).before) [
      | inl left ↦ absurd (not_left j m left)
      | inr seen ↦ seen (guards_come_after a pairs good d g.admissible g.state.fits.shared zero j x m holds)
    ])
  where
    not_left : (j : ℕ) → In (j, x) pairs → In j (x ∷ xs) → ⊥
    not_left j m (inl e) = good.acyclic zero x (subst (λ k. In (k, x) pairs) e m)
    not_left j m (inr i) = each_in (λ k. LeadsSome pairs k x → ⊥) xs j in_order.0 i (zero, m)

-- what is seen of the guards that are left behind the first
seen_next : (a : Automaton) (past new : List Element) (d : Config) (x : ℕ) (xs : List ℕ) → Seen a past d (x ∷ xs)
    → ((i : ℕ) → has_rise past i ≡ true → has_rise new i ≡ true) → (RiseHolds a d x → has_rise new x ≡ true) → Seen a new d xs
seen_next a past new d x xs seen kept own i b = elim (seen i b) [
  | inl (inl e) ↦ inr (λ h. subst (λ k. has_rise new k ≡ true) (sym e) (own (subst (RiseHolds a d) e h)))
  | inl (inr j) ↦ inl j
  | inr f ↦ inr (λ h. kept i (f h))
]

-- one rise guard
next_rise : (a : Automaton) (p : Pattern) (pairs : List (ℕ × ℕ)) (start : ℕ) (origin : List ℕ) (done begun : ℕ → Type 0) (d : Config) (x : ℕ) (xs : List ℕ)
    → Good a pairs → GuardsInOrder pairs (x ∷ xs) → x < length a.rise → Stage a p pairs start origin done begun d (x ∷ xs)
    → Stage a p pairs start origin done begun d xs
unfolding has_event has_rise
next_rise a p pairs start origin done begun d x xs good in_order b g =
    let w = some_at a.rise x b in
    let past = g.past in
    let skip : (RiseHolds a d x → has_rise past x ≡ true) → Stage a p pairs start origin done begun d xs = (λ h. record {
      past = past;
      vs = g.vs;
      begins = g.begins;
      fired = g.fired;
      state = g.state;
      more = g.more;
      events = g.events;
      only = g.only;
      rises = seen_next a past past d x xs g.rises (λ i t. t) h;
      risen = g.risen;
      admissible = g.admissible;
    }) in
    elim (cases_Bool (has_rise past x)) [
      | inl t ↦ skip (λ holds. t)
      | inr f ↦ elim (cases_Bool (is_negative (value_of (value_at d) (w.0).form))) [
        | inl t ↦ skip (λ holds.
            let fails : value_of (value_at d) (w.0).form <ℤ pos 0 = negative_true _ t in
            let stands : pos 0 ≤ℤ value_of (value_at d) (w.0).form = holds w.0 w.1 in
            absurd (omega (arith, ints)))
        | inr t ↦ (
            let holds : RiseHolds a d x = (λ row at.
            let same : Some row ≡ Some w.0 = sym at ∙ w.1 in
            let eq : row ≡ w.0 = cc in
            subst (RowHolds (value_at d)) (sym eq) (negative_false _ t)) in
            record {
              past = Rise x ∷ past;
              vs = g.vs ++ counts_of a p start past g.fired;
              begins = begins_more origin g.vs (counts_of a p start past g.fired) g.begins;
              fired = [];
              state = push_rise a p pairs start past g.vs g.fired d g.state x w.0 g.more
                  (next_due a p pairs start origin done begun d x xs good in_order g holds) f w.1 (negative_false _ t);
              more = g.more;
              events = g.events;
              rises = seen_next a past (Rise x ∷ past) d x xs g.rises (λ i u. or_right (eqb x i) (has_rise past i) u)
                  (λ h. or_left (eqb x x) (has_rise past x) (eq-eqb x x refl));
              risen = λ i u. elim (or_cases (eqb x i) (has_rise past i) u) [ inl e ↦ subst (RiseHolds a d) (eqb-true x i e) holds | inr v ↦ g.risen i v ];
              only = g.only;
              admissible = g.admissible;
            })
      ]
    ]

rises_phase : (a : Automaton) (p : Pattern) (pairs : List (ℕ × ℕ)) (start : ℕ) (origin : List ℕ) (done begun : ℕ → Type 0) (d : Config) (left : List ℕ)
    → Good a pairs → GuardsInOrder pairs left → ((i : ℕ) → In i left → i < length a.rise) → Stage a p pairs start origin done begun d left
    → Stage a p pairs start origin done begun d []
rises_phase a p pairs start origin done begun d [] good in_order within g = g
rises_phase a p pairs start origin done begun d (x ∷ xs) good in_order within g =
    rises_phase a p pairs start origin done begun d xs good in_order.1 (λ i j. within i (inr j))
    (next_rise a p pairs start origin done begun d x xs good in_order (within x (inl refl)) g)

-- the events before a moment, and those at it with a lower number
abbrev pub Done : Pattern → List ℕ → ℕ → ℕ → ℕ → Type 0
Done p positions k n e = (e < length p.events) × ((get_or positions e 0 < k) ⊎ ((e < n) × (get_or positions e 0 ≤ k)))

-- an event that doesn't happen behind a moment
abbrev pub Begun : List ℕ → ℕ → ℕ → Type 0
Begun positions k e = get_or positions e 0 ≤ k

-- what stands at the end of a word whose newest event happens at a moment
ends_here : (a : Automaton) (p : Pattern) (pairs : List (ℕ × ℕ)) (start : ℕ) (configs : List Config) (positions : List ℕ) (k n : ℕ) (older : List Element)
    (vs : List ℕ) (d : Config) → State a p pairs start (Event n ∷ older) vs [] d → is_complete p (Event n ∷ older) ≡ true → get_or positions n 0 ≡ k
    → ((e : ℕ) → has_event older e ≡ true → Begun positions k e) → Seen a older d [] → ((i : ℕ) → has_rise older i ≡ true → RiseHolds a d i)
    → slice_get configs k ≡ Some d → EndsAt a p start (Event n ∷ older) vs configs positions
unfolding total has_event has_rise
ends_here a p pairs start configs positions k n older vs d s complete at only rises risen there = record {
  last = n;
  older = older;
  newest = refl;
  place = k;
  position = at;
  greatest = λ e b. elim (or_cases (eqb n e) (has_event older e) (all_below-at (length p.events) (has_event (Event n ∷ older)) complete e b)) [
    | inl same ↦ (let q : n ≡ e = eqb-true n e same in let here : get_or positions e 0 ≡ k = subst (λ x. get_or positions x 0 ≡ k) q at in omega arith)
    | inr t ↦ only e t
  ];
  config = d;
  there = there;
  count = s.count;
  places = λ i. (let sum = s.places i in omega (arith, ints));
  risen = λ i row at_row. (
    (λ holds. elim (rises i (slice_get_within a.rise i row at_row)) [
      | inl none ↦ absurd none
      | inr f ↦ f (λ r at_r. let same : Some r ≡ Some row = sym at_r ∙ at_row in let eq : r ≡ row = cc in subst (RowHolds (value_at d)) (sym eq) holds)
    ]),
    (λ t. risen i t row at_row),
  );
  fallen = λ j row at_row. (
    (λ holds. elim (cases_Bool (has_fallen start (Event n ∷ older) j)) [
      | inl t ↦ absurd (let fails : value_of (value_at d) row.form <ℤ pos 0 = s.fallen j row at_row t in
          let stands : pos 0 ≤ℤ value_of (value_at d) row.form = holds in omega (arith, ints))
      | inr f ↦ f
    ]),
    (λ f. s.standing j row at_row f),
  );
}

-- what is known of the events' positions
pub record Positions (p : Pattern) (positions : List ℕ) : Type 0 where
  pub order : (e f : ℕ) (event : PatternEvent) → slice_get p.events e ≡ Some event → IsBitSet event.after f → get_or positions f 0 ≤ get_or positions e 0
  pub earlier : AfterEarlier p

-- one event
next_event : (a : Automaton) (p : Pattern) (pairs : List (ℕ × ℕ)) (start : ℕ) (origin : List ℕ) (configs : List Config) (positions : List ℕ) (k : ℕ)
    (d : Config) (n : ℕ) → slice_get configs k ≡ Some d → Positions p positions
    → ((e : ℕ) (event : PatternEvent) → slice_get p.events e ≡ Some event → get_or positions e 0 ≡ k → Holds event.condition d) → n < length p.events
    → Stage a p pairs start origin (Done p positions k n) (Begun positions k) d [] → Found a p pairs start origin configs positions
    ⊎ Stage a p pairs start origin (Done p positions k (n + 1)) (Begun positions k) d []
unfolding has_event has_rise
next_event a p pairs start origin configs positions k d n there ps holds b g =
    let w = some_at p.events n b in
    let past = g.past in
    let skip : (get_or positions n 0 ≤ k → has_event past n ≡ true)
    → Stage a p pairs start origin (Done p positions k (n + 1)) (Begun positions k) d [] = (λ h. record {
      past = past;
      vs = g.vs;
      begins = g.begins;
      fired = g.fired;
      state = g.state;
      more = g.more;
      rises = g.rises;
      risen = g.risen;
      admissible = g.admissible;
      only = g.only;
      events = λ e c. elim c.1 [
        | inl q ↦ g.events e (c.0, inl q)
        | inr q ↦ elim (eqb_tells e n) [
          | inl same ↦ ap (has_event past) same.1 ∙ h (subst (λ (x : ℕ). get_or positions x 0 ≤ k) same.1 q.1)
          | inr ne ↦ g.events e (c.0, inr ((let x = ne.1 in let y = q.0 in omega arith), q.1))
        ]
      ];
    }) in
    elim (cases_Bool (has_event past n)) [
      | inl t ↦ inr (skip (λ _. t))
      | inr f ↦ elim (eqb_tells (get_or positions n 0) k) [
        | inr ne ↦ inr (skip (λ le. g.events n (b, inl (let q = ne.1 in omega arith))))
        | inl at ↦ (
            let follow : follows p past (Some w.0) ≡ true = all_below-from (length p.events) (λ j. implies (has_bit (w.0).after j) (has_event past j))
            (λ j c. implies-from (has_bit (w.0).after j) (has_event past j) (λ t.
            let set = bit_set (w.0).after j t in
            let less : j < n = ps.earlier n w.0 w.1 j set in
            let order : get_or positions j 0 ≤ get_or positions n 0 = ps.order n j w.0 w.1 set in
            let here : get_or positions n 0 ≡ k = at.1 in
            g.events j (c, inr (less, omega arith)))) in
            let ready : is_ready p past n ≡ true = and_from _ _ (not_from_false _ f) (ap (follows p past) w.1 ∙ follow) in
            let s = push_event a p pairs start past g.vs g.fired d g.state n w.0 g.more ready w.1 (holds n w.0 w.1 at.1) in
            elim (cases_Bool (is_complete p (Event n ∷ past))) [
              | inl t ↦ inl (record {
                past = Event n ∷ past;
                vs = g.vs
                    ++ counts_of a p start past g.fired;
                begins = begins_more origin g.vs (counts_of a p start past g.fired) g.begins;
                fired = [];
                config = d;
                state = s;
                complete = t;
                ends = inr
                    (ends_here a p pairs start configs positions k n past (g.vs ++ counts_of a p start past g.fired) d s t at.1 g.only g.rises g.risen there);
              })
              | inr t ↦ inr (record {
                past = Event n ∷ past;
                vs = g.vs ++ counts_of a p start past g.fired;
                begins = begins_more origin g.vs (counts_of a p start past g.fired) g.begins;
                fired = [];
                state = s;
                more = t;
                rises = g.rises;
                risen = g.risen;
                admissible = g.admissible;
                only = λ e u. elim (or_cases (eqb n e) (has_event past e) u) [
                  | inl same ↦ (let q : n ≡ e = eqb-true n e same in let now : get_or positions e 0 ≡ k = subst (λ x. get_or positions x 0 ≡ k) q at.1 in omega
                      arith)
                  | inr v ↦ g.only e v
                ];
                events = λ e c. elim (eqb_tells e n) [
                  | inl same ↦ or_left (eqb n e) (has_event past e) (eq-eqb n e (sym same.1))
                  | inr ne ↦ or_right (eqb n e) (has_event past e) (elim c.1 [
                    | inl q ↦ g.events e (c.0, inl q)
                    | inr q ↦ g.events e (c.0, inr ((let x = ne.1 in let y = q.0 in omega arith), q.1))
                  ])
                ];
              })
            ])
      ]
    ]

events_phase : (a : Automaton) (p : Pattern) (pairs : List (ℕ × ℕ)) (start : ℕ) (origin : List ℕ) (configs : List Config) (positions : List ℕ) (k : ℕ)
    (d : Config) (n : ℕ) → slice_get configs k ≡ Some d → Positions p positions
    → ((e : ℕ) (event : PatternEvent) → slice_get p.events e ≡ Some event → get_or positions e 0 ≡ k → Holds event.condition d) → n ≤ length p.events
    → Stage a p pairs start origin (Done p positions k 0) (Begun positions k) d [] → Found a p pairs start origin configs positions
    ⊎ Stage a p pairs start origin (Done p positions k n) (Begun positions k) d []
events_phase a p pairs start origin configs positions k d zero there ps holds b g = inr g
events_phase a p pairs start origin configs positions k d (suc n) there ps holds b g = elim
    (events_phase a p pairs start origin configs positions k d n there ps holds (omega arith) g) [
      | inl found ↦ inl found
      | inr h ↦ (let e : n + 1 ≡ suc n = omega arith in subst
          (λ (x : ℕ). Found a p pairs start origin configs positions ⊎ Stage a p pairs start origin (Done p positions k x) (Begun positions k) d []) e
          (next_event a p pairs start origin configs positions k d n there ps holds (omega arith) h))
    ]

-- what is left of a run from its k-th configuration on
pub record Rest (p : Pattern) (positions : List ℕ) (k : ℕ) (configs : List Config) : Type 0 where
  pub holds : (e : ℕ) (event : PatternEvent) (j : ℕ) → slice_get p.events e ≡ Some event → get_or positions e 0 ≡ k + j → (c : Config)
      × (slice_get configs j ≡ Some c) × Holds event.condition c
  pub empty : (j : ℕ) (c : Config) → slice_get configs j ≡ Some c → KeptEmpty p c

rest_later : (p : Pattern) (positions : List ℕ) (k : ℕ) (d : Config) (ds : List Config) → Rest p positions k (d ∷ ds) → Rest p positions (k + 1) ds
rest_later p positions k d ds r = record {
  holds = λ e event j at is. r.holds e event (suc j) at (is ∙ (let s : k + 1 + j ≡ k + suc j = omega arith in s));
  empty = λ j c at. r.empty (suc j) c at;
}

follow_run : (a : Automaton) (p : Pattern) (pairs : List (ℕ × ℕ)) (start : ℕ) (origin : List ℕ) (configs : List Config) (positions : List ℕ) (all : List ℕ)
    → InTurn a pairs all → LoopsPure a → Positions p positions → (rules : List ℕ) (k : ℕ) (d : Config) (later : List Config) → Steps a d rules later
    → ((j : ℕ) → slice_get (d ∷ later) j ≡ slice_get configs (k + j)) → Rest p positions k (d ∷ later)
    → Stage a p pairs start origin (Done p positions k 0) (Begun positions k) d all → Found a p pairs start origin configs positions
follow_run a p pairs start origin configs positions all turn loops ps [] k d (next ∷ ds) run whole rest g = absurd run
follow_run a p pairs start origin configs positions all turn loops ps (r ∷ rs) k d [] run whole rest g = absurd run
follow_run a p pairs start origin configs positions all turn loops ps [] k d [] run whole rest g =
    let here : (e : ℕ) (event : PatternEvent) → slice_get p.events e ≡ Some event → get_or positions e 0 ≡ k → Holds event.condition d = (λ e event at is.
    let w = rest.holds e event 0 at (is ∙ (let s : k ≡ k + 0 = omega arith in s)) in
    let same : d ≡ w.0 = same_Some d w.0 w.1 in
    subst (Holds event.condition) (sym same) w.2) in
    let there : slice_get configs k ≡ Some d = (let zero_on : k + 0 ≡ k = omega arith in sym (whole 0 ∙ ap (slice_get configs) zero_on)) in
    elim (events_phase a p pairs start origin configs positions k d (length p.events) there ps here (omega arith)
    (rises_phase a p pairs start origin (Done p positions k 0) (Begun positions k) d all turn.good turn.in_order turn.within g)) [
      | inl found ↦ found
      | inr h ↦ (
          let all : is_complete p h.past ≡ true = all_below-from (length p.events) (has_event h.past) (λ e b. elim (cases_lt k (get_or positions e 0)) [
            | inl above ↦ (
                let w = some_at p.events e b in
                let v = rest.holds e w.0 (suc (get_or positions e 0 - (k + 1))) w.1 (omega arith) in
                absurd (omega (arith, slice_get_within (d ∷ []) (suc (get_or positions e 0 - (k + 1))) v.0 v.1)))
            | inr le ↦ h.events e (b, inr (b, le))
          ]) in
          absurd (false≢true (sym h.more ∙ all)))
    ]
follow_run a p pairs start origin configs positions all turn loops ps (r ∷ rs) k d (next ∷ ds) run whole rest g =
    let here : (e : ℕ) (event : PatternEvent) → slice_get p.events e ≡ Some event → get_or positions e 0 ≡ k → Holds event.condition d = (λ e event at is.
    let w = rest.holds e event 0 at (is ∙ (let s : k ≡ k + 0 = omega arith in s)) in
    let same : d ≡ w.0 = same_Some d w.0 w.1 in
    subst (Holds event.condition) (sym same) w.2) in
    let there : slice_get configs k ≡ Some d = (let zero_on : k + 0 ≡ k = omega arith in sym (whole 0 ∙ ap (slice_get configs) zero_on)) in
    elim (events_phase a p pairs start origin configs positions k d (length p.events) there ps here (omega arith)
    (rises_phase a p pairs start origin (Done p positions k 0) (Begun positions k) d all turn.good turn.in_order turn.within g)) [
      | inl found ↦ found
      | inr h ↦ (
          let after = after_step a p pairs start origin (Done p positions k (length p.events)) (Begun positions k) d next r all turn.each loops h
          (rest.empty 0 d refl) (rest.empty 1 next refl) run.0 in
          let begin : Stage a p pairs start origin (Done p positions (k + 1) 0) (Begun positions (k + 1)) next all = record {
            past = after.past;
            vs = after.vs;
            begins = after.begins;
            fired = after.fired;
            state = after.state;
            more = after.more;
            rises = after.rises;
            risen = after.risen;
            only = λ e t. (let le = after.only e t in omega arith);
            admissible = after.admissible;
            events = λ e c. after.events e (c.0, inr (c.0, elim c.1 [ inl q ↦ omega arith | inr q ↦ absurd (let z = q.0 in omega arith) ]));
          } in
          follow_run a p pairs start origin configs positions all turn loops ps rs (k + 1) next ds run.1
          (λ j. whole (suc j) ∙ (let next_on : k + suc j ≡ k + 1 + j = omega arith in ap (slice_get configs) next_on))
          (rest_later p positions k d (next ∷ ds) rest) begin)
    ]

-- the word and its values
pub record Described (a : Automaton) (p : Pattern) (pairs : List (ℕ × ℕ)) (origin : List ℕ) (configs : List Config) (positions : List ℕ) : Type 0 where
  pub start : ℕ
  pub is_start : start < 2 ^ length a.fall
  pub past : List Element
  pub legal : LegalUnder a p pairs start past
  pub complete : is_complete p past ≡ true
  pub values : List ℕ
  pub begins : Begins origin values
  pub solves : SolvesWord a p start past [] values
  pub ends : (past ≡ []) ⊎ EndsAt a p start past values configs positions

found_solution : (a : Automaton) (p : Pattern) (pairs : List (ℕ × ℕ)) (start : ℕ) (origin : List ℕ) (configs : List Config) (positions : List ℕ)
    → start < 2 ^ length a.fall → Found a p pairs start origin configs positions → Described a p pairs origin configs positions
found_solution a p pairs start origin configs positions b f = record {
  start = start;
  is_start = b;
  past = f.past;
  legal = f.state.legal;
  complete = f.complete;
  values = f.vs;
  begins = f.begins;
  ends = f.ends;
  solves = record {
    count = f.state.count;
    rows_hold = AllHold-append f.vs (word_rows a p start f.past) []
        (subst (λ (v : List ℕ). AllHold v (word_rows a p start f.past)) (append-nil f.vs) (f.state.solved [])) tt;
  };
}

-- the theorem
pub describe : (a : Automaton) (p : Pattern) (pairs : List (ℕ × ℕ)) → Good a pairs → LoopsPure a → AfterEarlier p
    → (first : Config) (rules : List ℕ) (o : Occurs a p first rules)
    → Described a p pairs (parameter_values a first ++ start_counts a p first) (first ∷ o.later) o.positions
unfolding has_event has_rise
describe a p pairs good loops earlier first rules o =
    let fits : Fits a first = record { parameters = o.run.initial.admissible.count; shared = o.run.initial.shared_count } in
    let rest : Rest p o.positions 0 (first ∷ o.later) = record {
      holds = λ e event j at is.
          let b = slice_get_within p.events e event at in
          let in_range : e < length o.positions = omega (arith, o.each_has_one, b) in
          o.happens e event j at (slice_get-get_or o.positions e 0 in_range ∙ ap Some (is ∙ (let s : 0 + j ≡ j = omega arith in s)));
      empty = λ j c at l t.
          let within = slice_get_within (first ∷ o.later) j c at in
          let h = o.kept_empty l (bit_set p.empty l t) j first within in
          let same : c ≡ get_or (first ∷ o.later) j first = same_Some c (get_or (first ∷ o.later) j first)
          (sym at ∙ slice_get-get_or (first ∷ o.later) j first within) in
          subst (λ (x : Config). get_or x.counters l 0 ≡ 0) (sym same) h;
    } in
    let start = start_set a first in
    let origin = parameter_values a first ++ start_counts a p first in
    let here : Begins origin origin = ([], sym (append-nil origin)) in
    let s = start_state a p pairs first fits o.run.initial (rest.empty 0 first refl) o.start in
    let ps : Positions p o.positions = record { order = λ e f event at set. o.in_order e f event at set; earlier = earlier } in
    let guards = ordered pairs good.acyclic (range_with_len 0 (length a.rise)) in
    let turn : InTurn a pairs guards.ys = record {
      good = good;
      in_order = guards.in_order;
      each = λ i c. guards.all i (In-numbers i 0 (length a.rise) (omega arith) (omega arith));
      within = λ i j. (let w = in_numbers i 0 (length a.rise) (guards.only i j) in let high = w.1 in omega arith);
    } in
    let b = mask_of-below (λ j. row_fails first (slice_get a.fall j)) (length a.fall) in
    found_solution a p pairs start origin (first ∷ o.later) o.positions b (elim (cases_Bool (is_complete p [])) [
      | inl t ↦ record { past = []; vs = origin; begins = here; fired = []; config = first; state = s; complete = t; ends = inl refl }
      | inr f ↦ follow_run a p pairs start origin (first ∷ o.later) o.positions guards.ys turn loops ps rules 0 first o.later o.run.steps
          (λ j. (let same : j ≡ 0 + j = omega arith in ap (slice_get (first ∷ o.later)) same)) rest (record {
            past = [];
            vs = origin;
            begins = here;
            fired = [];
            state = s;
            more = f;
            events = λ e c. elim c.1 [ inl q ↦ absurd (omega arith) | inr q ↦ absurd (let z = q.0 in omega arith) ];
            rises = λ i c. inl (turn.each i c);
            risen = λ i t. absurd (false≢true t);
            only = λ e t. absurd (false≢true t);
            admissible = o.run.initial.admissible;
          })
    ])
