-- the endings of a file's patterns are patterns of such a file, and their last events come last
use Rattle.ta_rest.proofs.Common.{◌≡◌, inl, inr, ℕ, suc, ◌+◌, ◌^◌, ◌<◌, List, [], ◌∷◌, ◌++◌, map, length, length-append, append_assoc, arith, sym, ap, ◌∙◌}
use Rattle.ta_rest.proofs.Common.{refl, subst, slice_get, get_or, eqb, Some, false≢true, AllByRecursion, push_cases, Comparison, Condition, Event, Pattern}
use Rattle.ta_rest.proofs.Common.{Distinct, EachFrom, ComesLast, Endings, FewEvents, IsEnding, RestAdded, events_below, rest_name}
use Rattle.ta_syntax.specs.declared.tokens.Mark.{Mark}
use Rattle.ta_syntax.specs.Kinds.{mark_bytes}
use Rattle.ta_automaton.specs.Forms.{ConditionOver, RowOver}
use Rattle.ta_automaton.specs.Names.{Name}
use Rattle.ta_automaton.specs.Patterns.{EventWithin, PatternWithin, PatternsShape, event_name, pattern_name}
use Rattle.ta_rest.proofs.EndingLaws.{ending_has}
use Rattle.ta_base.proofs.Bits.{ones_below}
use Rattle.ta_syntax.specs.declared.tokens.Mark.TheVariants as mark

no_mark : (m : Mark) → mark_bytes m ≡ rest_name → ⊥
no_mark mark.Rule e = false≢true (ap (λ (xs : List ℕ). eqb (get_or xs 1 0) 101) e)
no_mark mark.When e = false≢true (ap (λ (xs : List ℕ). eqb (get_or xs 1 0) 101) e)
no_mark _ e = cc

-- `rest` is a name
rest_is_name : Name rest_name
rest_is_name = record {
  spelled = record { first = refl; each = (refl, (refl, (refl, (refl, tt)))); free = no_mark };
  limit = omega arith;
}

-- an event that has another's name and condition and comes after all earlier ones is within what the other is
moved_within : (places k : ℕ) (event moved : Event) → moved.name ≡ event.name → moved.condition ≡ event.condition → moved.after ≡ events_below k
    → EventWithin places k event → EventWithin places k moved
moved_within places k event moved name condition after h = record {
  name = subst Name (sym name) h.name;
  after = omega (arith, after, ones_below k);
  condition = subst (ConditionOver places) (sym condition) h.condition;
}

moved_events : (places k : ℕ) (front : List Event) (last moved : Event) → moved.name ≡ last.name → moved.condition ≡ last.condition
    → moved.after ≡ events_below (k + length front) → EachFrom (EventWithin places) k (front ++ last ∷ [])
    → EachFrom (EventWithin places) k (front ++ moved ∷ [])
moved_events places k [] last moved name condition after h =
    (moved_within places k last moved name condition (after ∙ ap events_below (let e : k + 0 ≡ k = omega arith in e)) h.0, tt)
moved_events places k (x ∷ front) last moved name condition after h = (
  h.0,
  moved_events places (k + 1) front last moved name condition
      (after ∙ ap events_below (let e : k + suc (length front) ≡ k + 1 + length front = omega arith in e)) h.1,
)

moved_names : (front : List Event) (last moved : Event) → moved.name ≡ last.name → map event_name (front ++ moved ∷ []) ≡ map event_name (front ++ last ∷ [])
moved_names [] last moved name = ap (λ n. n ∷ []) name
moved_names (x ∷ front) last moved name = ap (λ ns. x.name ∷ ns) (moved_names front last moved name)

no_comparisons : (places : ℕ) (condition : Condition) → condition.comparisons ≡ [] → ConditionOver places condition
no_comparisons places condition e = subst (λ (ks : List Comparison). AllByRecursion (λ (k : Comparison). AllByRecursion (RowOver places) k.rows) ks) (sym e) tt

ending_within : (places locations : ℕ) (p q : Pattern) → IsEnding p q → PatternWithin places locations p → PatternWithin places locations q
ending_within places locations p q h w = record {
  name = subst Name (sym h.name) w.name;
  start = subst (ConditionOver places) (sym h.start) w.start;
  empty = subst (λ m. m < 2 ^ locations) (sym h.empty) w.empty;
  events_limit = elim h.events [
    | inl m ↦ (let one = ap (λ (xs : List Event). length xs) m.was in let two = ap (λ (xs : List Event). length xs) m.is in omega
        (arith, w.events_limit, length-append m.front (m.last ∷ []), length-append m.front (m.moved ∷ [])))
    | inr m ↦ (let one = ap (λ (xs : List Event). length xs) m.is in omega arith)
  ];
  events = elim h.events [
    | inl m ↦ subst (EachFrom (EventWithin places) 0) (sym m.is)
        (moved_events places 0 m.front m.last m.moved m.name m.condition
        (m.after ∙ ap events_below (let e : length m.front ≡ 0 + length m.front = omega arith in e)) (subst (EachFrom (EventWithin places) 0) m.was w.events))
    | inr m ↦ subst (EachFrom (EventWithin places) 0) (sym m.is) (
      record {
        name = subst Name (sym m.name) rest_is_name;
        after = omega (arith, m.after);
        condition = no_comparisons places m.event.condition m.condition;
      },
      tt,
    )
  ];
  events_distinct = elim h.events [
    | inl m ↦ subst Distinct (ap (λ (xs : List Event). map event_name xs) m.was ∙ sym (moved_names m.front m.last m.moved m.name)
        ∙ ap (λ (xs : List Event). map event_name xs) (sym m.is)) w.events_distinct
    | inr m ↦ subst (λ (xs : List Event). Distinct (map event_name xs)) (sym m.is) (tt, tt)
  ];
}

endings_within : (places locations : ℕ) (ps qs : List Pattern) → Endings ps qs → AllByRecursion (PatternWithin places locations) ps
    → AllByRecursion (PatternWithin places locations) qs
endings_within places locations [] [] h w = tt
endings_within places locations [] (q ∷ qs) h w = absurd h
endings_within places locations (p ∷ ps) [] h w = absurd h
endings_within places locations (p ∷ ps) (q ∷ qs) h w = (ending_within places locations p q h.0 w.0, endings_within places locations ps qs h.1 w.1)

pub endings_names : (ps qs : List Pattern) → Endings ps qs → map pattern_name qs ≡ map pattern_name ps
endings_names [] [] h = refl
endings_names [] (q ∷ qs) h = absurd h
endings_names (p ∷ ps) [] h = absurd h
endings_names (p ∷ ps) (q ∷ qs) h = ap (λ n. n ∷ map pattern_name qs) h.0.name ∙ ap (λ ns. p.name ∷ ns) (endings_names ps qs h.1)

pub endings_count : (ps qs : List Pattern) → Endings ps qs → length qs ≡ length ps
endings_count [] [] h = refl
endings_count [] (q ∷ qs) h = absurd h
endings_count (p ∷ ps) [] h = absurd h
endings_count (p ∷ ps) (q ∷ qs) h = ap suc (endings_count ps qs h.1)

pub endings_shape : (places locations : ℕ) (ps qs : List Pattern) → Endings ps qs → PatternsShape places locations ps → PatternsShape places locations qs
endings_shape places locations ps qs h s = record {
  limit = omega (arith, s.limit, endings_count ps qs h);
  within = endings_within places locations ps qs h s.within;
  distinct = subst Distinct (sym (endings_names ps qs h)) s.distinct;
}

pub ending_last : (p q : Pattern) → IsEnding p q → ComesLast q
ending_last p q h = record {
  some = ending_has p q h;
  last = λ e event is at. elim h.events [
    | inl m ↦ (
        let count = ap (λ (xs : List Event). length xs) m.is in
        elim (push_cases m.front m.moved e event (ap (λ (xs : List Event). slice_get xs e) (sym m.is) ∙ at)) [
          | inl w ↦ absurd (let b = w.0 in omega (arith, length-append m.front (m.moved ∷ [])))
          | inr w ↦ ap (λ (x : Event). x.after) (sym w.1) ∙ m.after ∙ ap events_below (sym w.0)
        ])
    | inr m ↦ (
        let count = ap (λ (xs : List Event). length xs) m.is in
        let first : e ≡ 0 = omega arith in
        let same : Some m.event ≡ Some event = ap (slice_get (m.event ∷ [])) (sym first) ∙ ap (λ (xs : List Event). slice_get xs e) (sym m.is) ∙ at in
        let here : m.event ≡ event = cc in
        ap (λ (x : Event). x.after) (sym here) ∙ m.after ∙ ap events_below (sym first))
  ];
}

pub endings_last : (ps qs : List Pattern) → Endings ps qs → AllByRecursion ComesLast qs
endings_last [] [] h = tt
endings_last [] (q ∷ qs) h = absurd h
endings_last (p ∷ ps) [] h = absurd h
endings_last (p ∷ ps) (q ∷ qs) h = (ending_last p q h.0, endings_last ps qs h.1)

-- one pattern more
pub endings_push : (ps qs : List Pattern) (p q : Pattern) → Endings ps qs → IsEnding p q → Endings (ps ++ p ∷ []) (qs ++ q ∷ [])
endings_push [] [] p q h i = (i, tt)
endings_push [] (r ∷ qs) p q h i = absurd h
endings_push (s ∷ ps) [] p q h i = absurd h
endings_push (s ∷ ps) (r ∷ qs) p q h i = (h.0, endings_push ps qs p q h.1 i)

-- the endings of the first patterns, those before the rest
pub record EndingsSoFar (patterns rest endings : List Pattern) : Type 0 where
  pub front : List Pattern
  pub whole : patterns ≡ front ++ rest
  pub ends : Endings front endings

pub so_far_more : (patterns rest endings : List Pattern) (p q : Pattern) → EndingsSoFar patterns (p ∷ rest) endings → IsEnding p q
    → EndingsSoFar patterns rest (endings ++ q ∷ [])
so_far_more patterns rest endings p q h i = record {
  front = h.front ++ p ∷ [];
  whole = h.whole ∙ sym (append_assoc h.front (p ∷ []) rest);
  ends = endings_push h.front endings p q h.ends i;
}

each_next : (front : List Pattern) (p : Pattern) (rest : List Pattern) → AllByRecursion FewEvents (front ++ p ∷ rest) → FewEvents p
each_next [] p rest h = h.0
each_next (x ∷ front) p rest h = each_next front p rest h.1

pub next_few : (patterns rest endings : List Pattern) (p : Pattern) → EndingsSoFar patterns (p ∷ rest) endings → AllByRecursion FewEvents patterns → FewEvents p
next_few patterns rest endings p h few = each_next h.front p rest (subst (AllByRecursion FewEvents) h.whole few)

-- an event named `rest` with an empty condition, in the place of none
pub added_of : (event : Event) → event.name ≡ rest_name → event.after ≡ 0 → event.condition.comparisons ≡ [] → RestAdded [] (event ∷ [])
added_of event name after condition = record { none = refl; event = event; is = refl; name = name; after = after; condition = condition }
