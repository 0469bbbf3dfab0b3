-- firings in an order in which nobody arrives any more where one leaves are legal as they stand, if their end is natural
use Rattle.ta_automaton.proofs.Common.{◌≡◌, ◌≢◌, inl, inr, ℕ, ◌+◌, ◌-◌, ◌<◌, ◌≤◌, ℤ, pos, ◌+ℤ◌, ◌-ℤ◌, ◌≤ℤ◌, List, [], ◌∷◌, length, arith, ap, ◌∙◌, refl}
use Rattle.ta_automaton.proofs.Common.{slice_get, get_or, Some, Option, IsBitSet, ints, eqb_tells, without_last, coefficient, RowHolds, Row, Rule, Automaton}
use Rattle.ta_automaton.proofs.Common.{At, Config, value_at, Steps, MaskedHold, In, one_if, shared_change, rule_change, location_place, total}
use Rattle.ta_base.proofs.Totals.{one_if-shift, one_if-ne}
use Rattle.ta_linear.proofs.TermLemmas.{terms_value-same}
use Rattle.ta_automaton.proofs.Moves.{Fits, move_at, value_at-location, shared_change-location, shared_change-parameter, shared_change-shared}
use Rattle.ta_automaton.proofs.Thresholds.{Later, falls as falls_rows, fall_back, stays_true, updates_natural, from_within}
use Rattle.ta_automaton.proofs.Fire.{Whole, fire, fire_whole, fire_step}

abbrev pub change_of : Automaton → ℕ → ℕ → ℤ
change_of a i r = rule_change a (slice_get a.rules r) i

-- none of these firings leads into a location
abbrev pub NoneInto : Automaton → ℕ → List ℕ → Type 0
NoneInto a l [] = Unit {0}
NoneInto a l (o ∷ os) = ((rule : Rule) → slice_get a.rules o ≡ Some rule → rule.to ≢ l) × NoneInto a l os

-- where a firing leaves, neither it nor one behind it arrives
abbrev pub Onward : Automaton → List ℕ → Type 0
Onward a [] = Unit {0}
Onward a (o ∷ os) = ((rule : Rule) → slice_get a.rules o ≡ Some rule → NoneInto a rule.from (o ∷ os)) × Onward a os

-- each firing is of a rule
abbrev pub EachRule : Automaton → List ℕ → Type 0
EachRule a [] = Unit {0}
EachRule a (o ∷ os) = ((rule : Rule) × (slice_get a.rules o ≡ Some rule)) × EachRule a os

-- where firings lead, as a point
abbrev pub after : Automaton → (ℕ → ℤ) → List ℕ → ℕ → ℤ
after a f os i = f i +ℤ total (change_of a i) os

-- firings whose rise guards hold at their beginning, whose fall guards hold before their last one, and at whose end no counter is below 0
pub record Piece (a : Automaton) (d : Config) (os : List ℕ) : Type 0 where
  pub whole : Whole a d
  pub exist : EachRule a os
  pub rises : (o : ℕ) (rule : Rule) → In o os → slice_get a.rules o ≡ Some rule → (i : ℕ) (row : Row) → slice_get a.rise i ≡ Some row → IsBitSet rule.rise i
      → RowHolds (value_at d) row
  pub falls : (o : ℕ) (rule : Rule) → In o os → slice_get a.rules o ≡ Some rule → (j : ℕ) (row : Row) → slice_get a.fall j ≡ Some row → IsBitSet rule.fall j
      → RowHolds (after a (value_at d) (without_last os)) row
  pub ends : (l : ℕ) → l < length a.locations → pos 0 ≤ℤ after a (value_at d) os (location_place a l)

-- they are steps, in this order
pub record Fired (a : Automaton) (d : Config) (os : List ℕ) : Type 0 where
  pub later : List Config
  pub steps : Steps a d os later
  pub end : Config
  pub last : At d later (length os) end
  pub whole : Whole a end
  pub values : (i : ℕ) → value_at end i ≡ after a (value_at d) os i

pub change_named : (a : Automaton) (i r : ℕ) (rule : Rule) → slice_get a.rules r ≡ Some rule
    → change_of a i r ≡ (shared_change a rule i +ℤ (one_if (location_place a rule.to) i -ℤ one_if (location_place a rule.from) i))
change_named a i r rule e = ap (λ (o : Option Rule). rule_change a o i) e

pub change_parameter : (a : Automaton) (i r : ℕ) (rule : Rule) → slice_get a.rules r ≡ Some rule → i < length a.parameters → change_of a i r ≡ pos 0
change_parameter a i r rule e b =
    omega (
      arith,
      ints,
      change_named a i r rule e,
      shared_change-parameter a rule i b,
      one_if-ne (location_place a rule.to) i (omega arith),
      one_if-ne
          (location_place a rule.from) i (omega arith),
    )

change_shared : (a : Automaton) (i r : ℕ) (rule : Rule) → slice_get a.rules r ≡ Some rule → length a.parameters ≤ i → i < length a.parameters + length a.shared
    → pos 0 ≤ℤ change_of a i r
change_shared a i r rule e low high =
    let x = i - length a.parameters in
    let s : i ≡ length a.parameters + x = omega arith in
    let here : shared_change a rule i ≡ coefficient rule.updates x = ap (shared_change a rule) s ∙ shared_change-shared a rule x (omega arith) in
    omega (
      arith,
      ints,
      change_named a i r rule e,
      here,
      updates_natural a r rule e x,
      one_if-ne (location_place a rule.to) i (omega arith),
      one_if-ne
          (location_place a rule.from) i (omega arith),
    )

pub change_location : (a : Automaton) (l r : ℕ) (rule : Rule) → slice_get a.rules r ≡ Some rule
    → change_of a (location_place a l) r ≡ (one_if rule.to l -ℤ one_if rule.from l)
change_location a l r rule e =
    let n = length a.parameters + length a.shared in
    omega (arith, ints, change_named a (location_place a l) r rule e, shared_change-location a rule l, one_if-shift n rule.to l, one_if-shift n rule.from l)

total_parameter : (a : Automaton) (os : List ℕ) (i : ℕ) → EachRule a os → i < length a.parameters → total (change_of a i) os ≡ pos 0
unfolding total
total_parameter a [] i h b = refl
total_parameter a (o ∷ os) i h b = omega (arith, ints, change_parameter a i o h.0.0 h.0.1 b, total_parameter a os i h.1 b)

total_shared : (a : Automaton) (os : List ℕ) (i : ℕ) → EachRule a os → length a.parameters ≤ i → i < length a.parameters + length a.shared
    → pos 0 ≤ℤ total (change_of a i) os
unfolding total
total_shared a [] i h low high = omega (arith, ints)
total_shared a (o ∷ os) i h low high = omega (arith, ints, change_shared a i o h.0.0 h.0.1 low high, total_shared a os i h.1 low high)

pub later_after : (a : Automaton) (f : ℕ → ℤ) (os : List ℕ) → EachRule a os → Later a f (after a f os)
later_after a f os h = record {
  parameters = λ i b. omega (arith, ints, total_parameter a os i h b);
  shared = λ i low high. omega (arith, ints, total_shared a os i h low high);
}

each_front : (a : Automaton) (os : List ℕ) → EachRule a os → EachRule a (without_last os)
each_front a [] h = tt
each_front a (o ∷ []) h = tt
each_front a (o ∷ q ∷ os) h = (h.0, each_front a (q ∷ os) h.1)

front_shared : (a : Automaton) (os : List ℕ) (i : ℕ) → EachRule a os → length a.parameters ≤ i → i < length a.parameters + length a.shared
    → total (change_of a i) (without_last os) ≤ℤ total (change_of a i) os
unfolding total
front_shared a [] i h low high = omega (arith, ints)
front_shared a (o ∷ []) i h low high = omega (arith, ints, change_shared a i o h.0.0 h.0.1 low high)
front_shared a (o ∷ q ∷ os) i h low high = omega (arith, ints, front_shared a (q ∷ os) i h.1 low high)

-- a fall guard that holds after firings holds before the last of them
pub holds_before_last : (a : Automaton) (f : ℕ → ℤ) (os : List ℕ) → EachRule a os → (j : ℕ) (row : Row) → slice_get a.fall j ≡ Some row
    → RowHolds (after a f os) row → RowHolds (after a f (without_last os)) row
holds_before_last a f os h j row at held =
    let later : Later a (after a f (without_last os)) (after a f os) = record {
      parameters = λ i b. omega (arith, ints, total_parameter a os i h b, total_parameter a (without_last os) i (each_front a os h) b);
      shared = λ i low high. omega (arith, ints, front_shared a os i h low high);
    } in
    omega (arith, ints, held, fall_back a (after a f (without_last os)) (after a f os) later row.form.terms (falls_rows a j row at))

-- the same before the last one, after one firing
front_after : (a : Automaton) (f g : ℕ → ℤ) (o q : ℕ) (os : List ℕ) → In q os → ((i : ℕ) → g i ≡ (f i +ℤ change_of a i o)) → (i : ℕ)
    → after a g (without_last os) i ≡ after a f (without_last (o ∷ os)) i
unfolding total
front_after a f g o q [] within moved i = absurd within
front_after a f g o q (p ∷ os) within moved i = omega (arith, ints, moved i)

-- firings of which none leads into a location take from its counter
outflow : (a : Automaton) (os : List ℕ) (l : ℕ) → EachRule a os → NoneInto a l os → total (change_of a (location_place a l)) os ≤ℤ pos 0
unfolding total
outflow a [] l h n = omega (arith, ints)
outflow a (o ∷ os) l h n =
    let rule = h.0.0 in
    let none : one_if rule.to l ≡ pos 0 = one_if-ne rule.to l (n.0 rule h.0.1) in
    let some : pos 0 ≤ℤ one_if rule.from l = elim (eqb_tells rule.from l) [ inl e ↦ rw e.0 (omega (arith, ints)) | inr e ↦ rw e.0 (omega (arith, ints)) ] in
    omega (arith, ints, change_location a l o rule h.0.1, none, some, outflow a os l h.1 n.1)

pub fire_in_order : (a : Automaton) (os : List ℕ) (d : Config) → Onward a os → Piece a d os → Fired a d os
unfolding total
fire_in_order a [] d onward s = record { later = []; steps = tt; end = d; last = refl; whole = s.whole; values = λ i. omega (arith, ints) }
fire_in_order a (o ∷ os) d onward s =
    let rule = s.exist.0.0 in
    let named = s.exist.0.1 in
    let l = rule.from in
    let fits : Fits a d = record { parameters = s.whole.parameters; shared = s.whole.shared } in
    let into = onward.0 rule named in
    let mine : one_if l l ≡ pos 1 = elim (eqb_tells l l) [ inl e ↦ rw e.0 refl | inr ne ↦ absurd (ne.1 refl) ] in
    let none : one_if rule.to l ≡ pos 0 = one_if-ne rule.to l (into.0 rule named) in
    let out = outflow a os l s.exist.1 into.1 in
    let end = s.ends l (from_within a o rule named) in
    let some : 1 ≤ get_or d.counters l 0 = omega (arith, ints, out, end, mine, none, change_location a l o rule named, value_at-location a d l fits) in
    let all = later_after a (value_at d) (without_last (o ∷ os)) (each_front a (o ∷ os) s.exist) in
    let rise : MaskedHold rule.rise a.rise d = s.rises o rule (inl refl) named in
    let fall : MaskedHold rule.fall a.fall d =
    (λ j row at set. omega (
      arith,
      ints,
      s.falls o rule (inl refl) named j row at set,
      fall_back a (value_at d)
          (after a (value_at d) (without_last (o ∷ os))) all row.form.terms (falls_rows a j row at),
    )) in
    let step = fire_step a o rule d named s.whole rise fall some in
    let next = fire a rule d in
    let whole = fire_whole a rule d s.whole in
    let moved = move_at a o d next fits (record { parameters = whole.parameters; shared = whole.shared }) step in
    let same : (i : ℕ) → after a (value_at next) os i ≡ after a (value_at d) (o ∷ os) i = (λ i. omega (arith, ints, moved i)) in
    let one : Later a (value_at d) (value_at next) = record {
      parameters = λ i b. omega (arith, ints, moved i, change_parameter a i o rule named b);
      shared = λ i low high. omega (arith, ints, moved i, change_shared a i o rule named low high);
    } in
    let rest : Piece a next os = record {
      whole = whole;
      exist = s.exist.1;
      rises = λ q other i n k row at set. stays_true a (value_at d) (value_at next) one k row at (s.rises q other (inr i) n k row at set);
      falls = λ q other i n j row at set. omega (
        arith,
        ints,
        s.falls q other (inr i) n j row at set,
        terms_value-same row.form.terms (after a (value_at next) (without_last os))
            (after a (value_at d) (without_last (o ∷ os))) (front_after a (value_at d) (value_at next) o q os i moved),
      );
      ends = λ m b. omega (arith, ints, s.ends m b, same (location_place a m));
    } in
    let more = fire_in_order a os next onward.1 rest in
    record {
      later = next ∷ more.later;
      steps = (step, more.steps);
      end = more.end;
      last = more.last;
      whole = more.whole;
      values = λ i. more.values i ∙ same i;
    }
