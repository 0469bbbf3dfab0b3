-- a run comes to rest for a pattern as it does for the pattern's ending
use Rattle.ta_rest.proofs.Common.{◌≡◌, ◌⊎◌, inl, inr, ℕ, zero, suc, ◌+◌, ◌≤◌, List, [], ◌∷◌, ◌++◌, length, length-append, arith, sym, ap, ◌∙◌, refl, subst}
use Rattle.ta_rest.proofs.Common.{slice_get, get_or, Some, IsBitSet, All, cases_lt, slice_get_within, slice_get-get_or, same_Some, no_bit, at_most_first}
use Rattle.ta_rest.proofs.Common.{get_end, push_cases, slice_get_left, some_at, Comparison, Condition, Automaton, Event, Pattern, Config, Holds, Occurs}
use Rattle.ta_rest.proofs.Common.{value_at, RowHolds, run_length, IsEnding, LastMoved, RestAdded, events_below, EndingsRestAlike, ComeAfterEarlier, ComesTo}
use Rattle.ta_rest.proofs.Common.{AtRest, ◌↔◌}
use Rattle.std.proofs.lemmas.List.{get_or_past}
use Rattle.ta_base.proofs.Lists.{none_of_empty}
use Rattle.ta_base.proofs.Bits.{ones_bit}

-- patterns whose events have the same conditions and, but for the last, come after the same events
record Alike (p q : Pattern) : Type 0 where
  start : q.start ≡ p.start
  empty : q.empty ≡ p.empty
  count : length q.events ≡ length p.events
  events : (e : ℕ) (event : Event) → slice_get q.events e ≡ Some event → (other : Event) × (slice_get p.events e ≡ Some other)
      × (event.condition ≡ other.condition) × ((e + 1 ≡ length p.events) ⊎ (event.after ≡ other.after))

-- no event happens after the end of the run
pub positions_within : (a : Automaton) (p : Pattern) (first : Config) (rules : List ℕ) (o : Occurs a p first rules) → (f : ℕ)
    → get_or o.positions f 0 ≤ length rules
positions_within a p first rules o f = elim (cases_lt f (length o.positions)) [
  | inl b ↦ (
      let at = slice_get-get_or o.positions f 0 b in
      let event = some_at p.events f (let c = o.each_has_one in omega arith) in
      let h = o.happens f event.0 (get_or o.positions f 0) event.1 at in
      let within = slice_get_within (first ∷ o.later) (get_or o.positions f 0) h.0 h.1 in
      omega (arith, run_length a first rules o.later o.run.steps))
  | inr c ↦ omega (arith, get_or_past o.positions f 0 c)
]

alike_rests : (good : Config → Type 0) (a : Automaton) (p q : Pattern) → Alike p q → (first : Config) (rules : List ℕ) → ComesTo good a p first rules
    → ComesTo good a q first rules
alike_rests good a p q h first rules o =
    let was = o.occurs in
    record {
      occurs = record {
        later = was.later;
        run = was.run;
        start = subst (λ (k : Condition). Holds k first) (sym h.start) was.start;
        kept_empty = λ l set. was.kept_empty l (subst (λ m. IsBitSet m l) h.empty set);
        positions = was.positions;
        each_has_one = was.each_has_one ∙ sym h.count;
        happens = λ e event k at place.
            let w = h.events e event at in
            let there = was.happens e w.0 k w.1 place in
            (there.0, there.1, subst (λ (c : Condition). Holds c there.0) (sym w.2) there.2);
        in_order = λ e f event at set.
            let w = h.events e event at in
            elim w.3 [
              | inl last ↦ (let end = o.at_end e last in omega (arith, positions_within a p first rules was f))
              | inr same ↦ was.in_order e f w.0 w.1 (subst (λ m. IsBitSet m f) same set)
            ];
      };
      at_end = λ last is. o.at_end last (is ∙ h.count);
      rests = o.rests;
    }

-- an event of a list whose last item is another
other_event : (front : List Event) (last moved : Event) → moved.condition ≡ last.condition → (e : ℕ) (event : Event)
    → slice_get (front ++ moved ∷ []) e ≡ Some event
    → (other : Event) × (slice_get (front ++ last ∷ []) e ≡ Some other) × (event.condition ≡ other.condition)
    × ((e + 1 ≡ length (front ++ last ∷ [])) ⊎ (event.after ≡ other.after))
other_event front last moved same e event at = elim (push_cases front moved e event at) [
  | inl w ↦ (event, slice_get_left front (last ∷ []) e event w.1, refl, inr refl)
  | inr w ↦ (
    last,
    get_end front last e (sym w.0),
    (ap (λ (x : Event). x.condition) (sym w.1) ∙ same),
    inl (let here = w.0 in omega (arith, length-append front (last ∷ []))),
  )
]

-- the same for events that are equal to such lists
other_of : (old new : List Event) (m : LastMoved old new) → (e : ℕ) (event : Event) → slice_get new e ≡ Some event
    → (other : Event) × (slice_get old e ≡ Some other) × (event.condition ≡ other.condition) × ((e + 1 ≡ length old) ⊎ (event.after ≡ other.after))
other_of old new m e event at =
    subst (λ (xs : List Event). (other : Event) × (slice_get xs e ≡ Some other) × (event.condition ≡ other.condition)
    × ((e + 1 ≡ length xs) ⊎ (event.after ≡ other.after))) (sym m.was)
    (other_event m.front m.last m.moved m.condition e event (ap (λ (xs : List Event). slice_get xs e) (sym m.is) ∙ at))

pub back_of : (old new : List Event) (m : LastMoved old new) → (e : ℕ) (event : Event) → slice_get old e ≡ Some event
    → (other : Event) × (slice_get new e ≡ Some other) × (event.condition ≡ other.condition) × ((e + 1 ≡ length new) ⊎ (event.after ≡ other.after))
back_of old new m e event at =
    subst (λ (xs : List Event). (other : Event) × (slice_get xs e ≡ Some other) × (event.condition ≡ other.condition)
    × ((e + 1 ≡ length xs) ⊎ (event.after ≡ other.after))) (sym m.is)
    (other_event m.front m.moved m.last (sym m.condition) e event (ap (λ (xs : List Event). slice_get xs e) (sym m.was) ∙ at))

pub moved_count : (old new : List Event) → LastMoved old new → length new ≡ length old
moved_count old new m =
    let one = ap (λ (xs : List Event). length xs) m.was in
    let two = ap (λ (xs : List Event). length xs) m.is in
    omega (arith, length-append m.front (m.last ∷ []), length-append m.front (m.moved ∷ []))

-- there is a configuration after the last step
pub end_config : (a : Automaton) (p : Pattern) (first : Config) (rules : List ℕ) (o : Occurs a p first rules) → (c : Config)
    × (slice_get (first ∷ o.later) (length rules) ≡ Some c)
end_config a p first rules o = (
  get_or (first ∷ o.later) (length rules) first,
  slice_get-get_or (first ∷ o.later) (length rules) first
      (omega (arith, run_length a first rules o.later o.run.steps)),
)

no_comparison : (c : Config) (ks : List Comparison) → ks ≡ [] → All (λ (k : Comparison). All (RowHolds (value_at c)) k.rows) ks
no_comparison c [] e i d b = absurd (omega arith)
no_comparison c (k ∷ ks) e i d b = absurd (cc)

-- the only event's condition holds, since it has no comparisons
added_holds : (old new : List Event) (m : RestAdded old new) (c : Config) (e : ℕ) (event : Event) → slice_get new e ≡ Some event → (e ≡ 0)
    × Holds event.condition c
added_holds old new m c e event at = only e (ap (λ (xs : List Event). slice_get xs e) (sym m.is) ∙ at) where
  only : (e : ℕ) → slice_get (m.event ∷ []) e ≡ Some event → (e ≡ 0) × Holds event.condition c
  only zero h = (
    refl,
    no_comparison c event.condition.comparisons
        (ap (λ (x : Event). x.condition.comparisons) (sym (same_Some m.event event h)) ∙ m.condition),
  )
  only (suc e) h = absurd (cc)

added_rests : (good : Config → Type 0) (a : Automaton) (p q : Pattern) → q.start ≡ p.start → q.empty ≡ p.empty → RestAdded p.events q.events
    → (first : Config) (rules : List ℕ) → ComesTo good a p first rules → ComesTo good a q first rules
added_rests good a p q start empty m first rules o =
    let was = o.occurs in
    let n = length rules in
    let end = end_config a p first rules was in
    let one : length q.events ≡ 1 = ap (λ (xs : List Event). length xs) m.is in
    record {
      occurs = record {
        later = was.later;
        run = was.run;
        start = subst (λ (k : Condition). Holds k first) (sym start) was.start;
        kept_empty = λ l set. was.kept_empty l (subst (λ k. IsBitSet k l) empty set);
        positions = n ∷ [];
        each_has_one = sym one;
        happens = λ e event k at place.
            let w = added_holds p.events q.events m end.0 e event at in
            let here : n ≡ k = same_Some n k (ap (slice_get (n ∷ [])) (sym w.0) ∙ place) in
            (end.0, subst (λ j. slice_get (first ∷ was.later) j ≡ Some end.0) here end.1, w.1);
        in_order = λ e f event at set.
            let w = added_holds p.events q.events m end.0 e event at in
            let here : get_or (n ∷ []) e 0 ≡ n = ap (λ j. get_or (n ∷ []) j 0) w.0 in
            omega (arith, at_most_first n f);
      };
      at_end = λ last is. ap (λ j. get_or (n ∷ []) j 0) (let z : last ≡ 0 = omega arith in z);
      rests = o.rests;
    }

added_back : (good : Config → Type 0) (a : Automaton) (p q : Pattern) → q.start ≡ p.start → q.empty ≡ p.empty → RestAdded p.events q.events
    → (first : Config) (rules : List ℕ) → ComesTo good a q first rules → ComesTo good a p first rules
added_back good a p q start empty m first rules o =
    let was = o.occurs in
    let none : length p.events ≡ 0 = ap (λ (xs : List Event). length xs) m.none in
    record {
      occurs = record {
        later = was.later;
        run = was.run;
        start = subst (λ (k : Condition). Holds k first) start was.start;
        kept_empty = λ l set. was.kept_empty l (subst (λ k. IsBitSet k l) (sym empty) set);
        positions = [];
        each_has_one = sym none;
        happens = λ e event k at place. absurd (none_of_empty p.events m.none e event at);
        in_order = λ e f event at set. absurd (none_of_empty p.events m.none e event at);
      };
      at_end = λ last is. absurd (omega arith);
      rests = o.rests;
    }

-- a run comes to a good end for a pattern as it does for the pattern's ending
pub endings_alike : (good : Config → Type 0) (a : Automaton) (p q : Pattern) → IsEnding p q → (first : Config) (rules : List ℕ) → ComesTo good a p first rules
    ↔ ComesTo good a q first rules
endings_alike good a p q h first rules = elim h.events [
  | inl m ↦ (
    alike_rests good a p q (record { start = h.start; empty = h.empty; count = moved_count p.events q.events m; events = other_of p.events q.events m }) first
        rules,
    alike_rests good a q p (record {
      start = sym h.start;
      empty = sym h.empty;
      count = sym (moved_count p.events q.events m);
      events = back_of p.events q.events
          m;
    }) first rules,
  )
  | inr m ↦ (added_rests good a p q h.start h.empty m first rules, added_back good a p q h.start h.empty m first rules)
]

pub endings_rest : EndingsRestAlike
endings_rest a = endings_alike (AtRest a) a

-- an ending has events
pub ending_has : (p q : Pattern) → IsEnding p q → 1 ≤ length q.events
ending_has p q h = elim h.events [
  | inl m ↦ (let e = ap (λ (xs : List Event). length xs) m.is in omega (arith, length-append m.front (m.moved ∷ [])))
  | inr m ↦ (let e = ap (λ (xs : List Event). length xs) m.is in omega arith)
]

-- the events of an ending come after earlier ones alone
pub ending_early : (p q : Pattern) → IsEnding p q → ComeAfterEarlier p → ComeAfterEarlier q
ending_early p q h early e event at f set = elim h.events [
  | inl m ↦ elim (push_cases m.front m.moved e event (ap (λ (xs : List Event). slice_get xs e) (sym m.is) ∙ at)) [
    | inl w ↦ early e event (ap (λ (xs : List Event). slice_get xs e) m.was ∙ slice_get_left m.front (m.last ∷ []) e event w.1) f set
    | inr w ↦ (
        let here = w.0 in
        let after : event.after ≡ events_below (length m.front) = ap (λ (x : Event). x.after) (sym w.1) ∙ m.after in
        let low = ones_bit (length m.front) f (subst (λ k. IsBitSet k f) after set) in
        omega arith)
  ]
  | inr m ↦ absurd (none m e (ap (λ (xs : List Event). slice_get xs e) (sym m.is) ∙ at))
] where
  none : (m : RestAdded p.events q.events) (e : ℕ) → slice_get (m.event ∷ []) e ≡ Some event → ⊥
  none m zero h = no_bit f (subst (λ k. IsBitSet k f) (ap (λ (x : Event). x.after) (sym (same_Some m.event event h)) ∙ m.after) set)
  none m (suc e) h = cc
