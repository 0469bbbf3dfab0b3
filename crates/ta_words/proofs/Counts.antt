-- a legal word has at most as many elements as there are events and guards
--
-- The weight of a word is the number of its events, of its rise guards, and of the fall guards that have fallen. A child adds to
-- it: its event or rise guard is new, or a fall guard of its nonempty set still stood. So a word has no more elements than its
-- weight, and that is at most 8 + 16 + 6.
use Rattle.ta_words.proofs.Common.{◌≡◌, ◌⊎◌, inl, inr, ℕ, ◌+◌, ◌-◌, ◌^◌, ◌<◌, ◌≤◌, List, [], ◌∷◌, ◌++◌, length, map, true, not, arith, ap, refl, subst, reverse}
use Rattle.ta_words.proofs.Common.{filter, ◌==◌, length-reverse, and_parts, eq-eqb, not-true, or_left, or_right, has_bit, implies, range_with_len, In}
use Rattle.ta_words.proofs.Common.{all_below-at, some_bit, implies-at, In-left, In-right, cond_more, in_append, in_more, count, count_most, count_new}
use Rattle.ta_words.proofs.Common.{Automaton, Pattern, has_event, has_rise, has_fallen, is_complete, is_due, is_ready, is_standing, may_rise, children}
use Rattle.ta_words.proofs.Common.{LegalWord, LegalUnder, Element, Event, Rise, Fall, NarrowTask}
use Rattle.ta_base.proofs.Ranges.{in_passed, passed_more}
use Rattle.ta_automaton.specs.Narrow.{IsNarrow}

-- a child is an event that is ready, a rise guard that is not in the word, or a set of standing fall guards
pub in_children : (a : Automaton) (p : Pattern) (pairs : List (ℕ × ℕ)) (start : ℕ) (past : List Element) (e : Element) → In e (children a p pairs start past)
    → ((x : ℕ) × (e ≡ Event x) × (is_ready p past x ≡ true) × (0 ≤ x) × (x < 0 + length p.events))
    ⊎ (((x : ℕ) × (e ≡ Rise x) × (may_rise pairs past x ≡ true) × (0 ≤ x) × (x < 0 + length a.rise))
    ⊎ ((x : ℕ) × (e ≡ Fall x) × (is_standing a start past x ≡ true) × (1 ≤ x) × (x < 1 + (2 ^ length a.fall - 1))))
unfolding children
in_children a p pairs start past e h =
    let events = map Event (filter (is_ready p past) (range_with_len 0 (length p.events))) in
    let rises = map Rise (filter (may_rise pairs past) (range_with_len 0 (length a.rise))) in
    let falls = map Fall (filter (is_standing a start past) (range_with_len 1 (2 ^ length a.fall - 1))) in
    elim (in_append e events (rises ++ falls) (in_more e (is_complete p past) (events ++ (rises ++ falls)) h)) [
      | inl g ↦ inl (in_passed Event (is_ready p past) 0 (length p.events) e g)
      | inr g ↦ elim (in_append e rises falls g) [
        | inl r ↦ inr (inl (in_passed Rise (may_rise pairs past) 0 (length a.rise) e r))
        | inr r ↦ inr (inr (in_passed Fall (is_standing a start past) 1 (2 ^ length a.fall - 1) e r))
      ]
    ]

-- a child under pairs is one under none
pub under_none : (a : Automaton) (p : Pattern) (pairs : List (ℕ × ℕ)) (start : ℕ) (past : List Element) (e : Element) → In e (children a p pairs start past)
    → In e (children a p [] start past)
unfolding children
under_none a p pairs start past e h =
    let events = map Event (filter (is_ready p past) (range_with_len 0 (length p.events))) in
    let rises = map Rise (filter (may_rise pairs past) (range_with_len 0 (length a.rise))) in
    let free = map Rise (filter (may_rise [] past) (range_with_len 0 (length a.rise))) in
    let falls = map Fall (filter (is_standing a start past) (range_with_len 1 (2 ^ length a.fall - 1))) in
    cond_more e (is_complete p past) (events ++ (rises ++ falls)) (events ++ (free ++ falls)) (λ g. elim (in_append e events (rises ++ falls) g) [
      | inl l ↦ In-left e events (free ++ falls) l
      | inr l ↦ elim (in_append e rises falls l) [
        | inl r ↦ In-right e events (free ++ falls)
            (In-left e free falls (passed_more Rise (may_rise pairs past) (may_rise [] past) 0 (length a.rise) e
            (λ x t. (and_parts (is_due pairs past x) (not (has_rise past x)) t).1) r))
        | inr r ↦ In-right e events (free ++ falls) (In-right e free falls r)
      ]
    ]) h

-- a word that is legal under pairs is legal
pub legal_under : (a : Automaton) (p : Pattern) (pairs : List (ℕ × ℕ)) (start : ℕ) (past : List Element) → LegalUnder a p pairs start past
    → LegalWord a p start past
legal_under a p pairs start [] h = tt
legal_under a p pairs start (e ∷ past) h = (under_none a p pairs start past e h.0, legal_under a p pairs start past h.1)

-- how much of the events and guards a word has
abbrev weight : Automaton → Pattern → ℕ → List Element → ℕ
weight a p start past = count (has_event past) (length p.events) + (count (has_rise past) (length a.rise) + count (has_fallen start past) (length a.fall))

-- a child's event is new to a word, and so is its rise guard, or a fall guard of its set
pub event_new : (p : Pattern) (past : List Element) (x : ℕ) → is_ready p past x ≡ true → x < length p.events
    → count (has_event past) (length p.events) + 1 ≤ count (has_event (Event x ∷ past)) (length p.events)
unfolding has_event
event_new p past x ready b =
    count_new (has_event past) (has_event (Event x ∷ past)) (length p.events) x (λ j t. or_right (x == j) (has_event past j) t) b
    (not-true (has_event past x) (and_parts _ _ ready).0) (or_left (x == x) (has_event past x) (eq-eqb x x refl))

pub rise_new : (a : Automaton) (past : List Element) (x : ℕ) → not (has_rise past x) ≡ true → x < length a.rise
    → count (has_rise past) (length a.rise) + 1 ≤ count (has_rise (Rise x ∷ past)) (length a.rise)
unfolding has_rise
rise_new a past x new b =
    count_new (has_rise past) (has_rise (Rise x ∷ past)) (length a.rise) x (λ j t. or_right (x == j) (has_rise past j) t) b (not-true (has_rise past x) new)
    (or_left (x == x) (has_rise past x) (eq-eqb x x refl))

pub fall_new : (a : Automaton) (start : ℕ) (past : List Element) (x : ℕ) → is_standing a start past x ≡ true → 1 ≤ x → x < 2 ^ length a.fall
    → count (has_fallen start past) (length a.fall) + 1 ≤ count (has_fallen start (Fall x ∷ past)) (length a.fall)
unfolding has_fallen
fall_new a start past x standing least most =
    let bit = some_bit x (length a.fall) least most in
    let left = implies-at (has_bit x bit.0) (not (has_fallen start past bit.0))
    (all_below-at (length a.fall) (λ j. implies (has_bit x j) (not (has_fallen start past j))) standing bit.0 bit.1) bit.2 in
    count_new (has_fallen start past) (has_fallen start (Fall x ∷ past)) (length a.fall) bit.0 (λ j t. or_right (has_bit x j) (has_fallen start past j) t) bit.1
    (not-true (has_fallen start past bit.0) left) (or_left (has_bit x bit.0) (has_fallen start past bit.0) bit.2)

event_weighs : (a : Automaton) (p : Pattern) (start : ℕ) (past : List Element) (x : ℕ) → is_ready p past x ≡ true → x < length p.events
    → weight a p start past + 1 ≤ weight a p start (Event x ∷ past)
unfolding has_rise has_fallen
event_weighs a p start past x ready b = omega (arith, event_new p past x ready b)

rise_weighs : (a : Automaton) (p : Pattern) (start : ℕ) (past : List Element) (x : ℕ) → not (has_rise past x) ≡ true → x < length a.rise
    → weight a p start past + 1 ≤ weight a p start (Rise x ∷ past)
unfolding has_event has_fallen
rise_weighs a p start past x new b = omega (arith, rise_new a past x new b)

fall_weighs : (a : Automaton) (p : Pattern) (start : ℕ) (past : List Element) (x : ℕ) → is_standing a start past x ≡ true → 1 ≤ x → x < 2 ^ length a.fall
    → weight a p start past + 1 ≤ weight a p start (Fall x ∷ past)
unfolding has_event has_rise
fall_weighs a p start past x standing least most = omega (arith, fall_new a start past x standing least most)

pub legal_weight : (a : Automaton) (p : Pattern) (start : ℕ) (past : List Element) → LegalWord a p start past → length past ≤ weight a p start past
legal_weight a p start [] h = omega arith
legal_weight a p start (e ∷ past) h =
    let rest = legal_weight a p start past h.1 in
    elim (in_children a p [] start past e h.0) [
      | inl c ↦ (let b : c.0 < length p.events = (let q = c.4 in omega arith) in let same = ap (λ x. weight a p start (x ∷ past)) c.1 in omega
          (arith, same, event_weighs a p start past c.0 c.2 b))
      | inr (inl c) ↦ (let b : c.0 < length a.rise = (let q = c.4 in omega arith) in let same = ap (λ x. weight a p start (x ∷ past)) c.1 in omega
          (arith, same, rise_weighs a p start past c.0 c.2 b))
      | inr (inr c) ↦ (let b : c.0 < 2 ^ length a.fall = (let q = c.4 in let low = c.3 in omega arith) in
          let same = ap (λ x. weight a p start (x ∷ past)) c.1 in omega (arith, same, fall_weighs a p start past c.0 c.2 c.3 b))
    ]

-- at most 8 events, 16 rise guards and 6 fall guards: 30 elements
pub legal_length : (a : Automaton) (p : Pattern) (start : ℕ) (past : List Element) → IsNarrow a → length p.events ≤ 8 → LegalWord a p start past
    → length past ≤ 30
legal_length a p start past narrow few h =
    omega (
      arith,
      legal_weight a p start past h,
      few,
      narrow.rise,
      narrow.fall,
      count_most (has_event past) (length p.events),
      count_most (has_rise past) (length a.rise),
      count_most (has_fallen start past) (length a.fall),
    )

-- there is room for a child of a legal word
pub room : (t : NarrowTask) (start : ℕ) (pairs : List (ℕ × ℕ)) (word listed : List Element) (e : Element)
    → LegalWord t.automaton.now t.pattern.now start (reverse word) → listed ≡ children t.automaton.now t.pattern.now pairs start (reverse word) → In e listed
    → length word < 30
room t start pairs word listed e legal is h =
    let a = t.automaton.now in
    let p = t.pattern.now in
    let child : In e (children a p [] start (reverse word)) = under_none a p pairs start (reverse word) e (subst (In e) is h) in
    omega (arith, legal_length a p start (e ∷ reverse word) t.narrow t.over.events_limit (child, legal), length-reverse word)
