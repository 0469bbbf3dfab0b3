-- what follows a word, and how long words and lists of children get
use Rattle.ta_words.proofs.Common.{◌≡◌, ℕ, ◌+◌, ◌-◌, ◌^◌, ◌<◌, ◌≤◌, List, [], ◌++◌, length, map, true, false, arith, sym, ap, ◌∙◌, append_assoc, filter}
use Rattle.ta_words.proofs.Common.{slice_get_within, range_with_len, Automaton, Pattern, EventsNamed, is_complete, is_ready, is_standing, may_rise, children}
use Rattle.ta_words.proofs.Common.{Element, Event, Rise, Fall, cond-false, cond-true}
use Rattle.std.proofs.Math.Nat.{pow-le-pow_right}
use Rattle.ta_base.proofs.Each.{each_from_at}
use Rattle.ta_automaton.specs.Patterns.{EventWithin, PatternOver}

pub events_named : (a : Automaton) (p : Pattern) → PatternOver a p → EventsNamed p
events_named a p over =
    let places = length a.parameters + length a.shared + length a.locations in
    record {
      limit = over.events_limit;
      after = λ e event here.
          let before = each_from_at (EventWithin places) 0 p.events e event over.events here in
          let below = before.after in
          let inside = slice_get_within p.events e event here in
          let two : 0 < 2 = omega arith in
          let number : 0 + e ≤ length p.events = omega arith in
          let more : 2 ^ (0 + e) ≤ 2 ^ length p.events = pow-le-pow_right two number in
          omega arith;
    }

abbrev event_children : Pattern → List Element → List Element
event_children p past = map Event (filter (is_ready p past) (range_with_len 0 (length p.events)))

abbrev rise_children : Automaton → List (ℕ × ℕ) → List Element → List Element
rise_children a pairs past = map Rise (filter (may_rise pairs past) (range_with_len 0 (length a.rise)))

abbrev fall_children : Automaton → ℕ → List Element → List Element
fall_children a start past = map Fall (filter (is_standing a start past) (range_with_len 1 (2 ^ length a.fall - 1)))

pub children_listed : (a : Automaton) (p : Pattern) (pairs : List (ℕ × ℕ)) (start : ℕ) (past first second third fourth : List Element)
    → is_complete p past ≡ false → first ≡ [] → second ≡ first ++ event_children p past → third ≡ second ++ rise_children a pairs past → fourth ≡ third
    ++ fall_children a start past → fourth ≡ children a p pairs start past
unfolding children
children_listed a p pairs start past first second third fourth more e f g h =
    h ∙ ap (λ xs. xs ++ fall_children a start past) (g ∙ ap (λ xs. xs ++ rise_children a pairs past) (f ∙ ap (λ xs. xs ++ event_children p past) e))
    ∙ append_assoc (event_children p past) (rise_children a pairs past) (fall_children a start past)
    ∙ sym (cond-false (is_complete p past) [] (event_children p past ++ (rise_children a pairs past ++ fall_children a start past)) more)

pub no_children : (a : Automaton) (p : Pattern) (pairs : List (ℕ × ℕ)) (start : ℕ) (past none : List Element) → is_complete p past ≡ true → none ≡ []
    → none ≡ children a p pairs start past
unfolding children
no_children a p pairs start past none done e = e ∙ sym
    (cond-true (is_complete p past) [] (event_children p past ++ (rise_children a pairs past ++ fall_children a start past)) done)
