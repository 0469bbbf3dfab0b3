-- the firings of an element, in an order that goes forward, are legal where their end is natural
--
-- When a location is left, nobody arrives there any more. So its counter first rises from a natural number and then falls to the
-- one that the rows at the element's end call natural: it is never negative. Rise guards that hold at the beginning stay true; fall
-- guards that hold at the end held before, since shared variables only grow.
use Rattle.ta_encode.proofs.Common.{IsBitSet, ◌≡◌, ◌≢◌, inl, inr, ℕ, zero, suc, ◌<◌, ◌≤◌, pos, ◌+ℤ◌, ◌≤ℤ◌, List, [], ◌∷◌, ◌++◌, length, true, false, not, arith}
use Rattle.ta_encode.proofs.Common.{sym, ap, ◌∙◌, refl, subst, slice_get, get_or, Some, None, Option, ints, cases_Bool, and_parts, false≢true, eqb-false}
use Rattle.ta_encode.proofs.Common.{not-true, slice_get_within, AllByRecursion, all_below-at, bit_true, implies-at, untouched, value_of, RowHolds, Row, Rule}
use Rattle.ta_encode.proofs.Common.{Automaton, Pattern, Config, value_at, Step, Steps, MaskedHold, has_bit, all_below, implies, In, Element, has_rise}
use Rattle.ta_encode.proofs.Common.{has_fallen, may_fire, one_if, location_place, total, move_at, value_at-location, one_if-ne, change_of, change_location}
use Rattle.ta_encode.proofs.Common.{EachRule, Onward, Piece, holds_before_last, fire_in_order, Whole, fire, fire_whole, fire_step, fits_whole, Trail, Grows}
use Rattle.ta_encode.proofs.Switch.{KeptEmpty}
use Rattle.ta_encode.proofs.Appending.{trail_append}

-- a rule with this number
abbrev pub Exists : Automaton → ℕ → Type 0
Exists a r = (rule : Rule) × (slice_get a.rules r ≡ Some rule)

-- each fired rule may fire after the word
abbrev pub EachMay : Automaton → Pattern → ℕ → List Element → List ℕ → Type 0
EachMay a p start past os = AllByRecursion (λ o. may_fire a p start past (slice_get a.rules o) ≡ true) os

pub may_at : (a : Automaton) (p : Pattern) (start : ℕ) (past : List Element) (os : List ℕ) (o : ℕ) → EachMay a p start past os → In o os
    → may_fire a p start past (slice_get a.rules o) ≡ true
may_at a p start past [] o h i = absurd i
may_at a p start past (x ∷ os) o h (inl e) = ap (λ r. may_fire a p start past (slice_get a.rules r)) e ∙ h.0
may_at a p start past (x ∷ os) o h (inr i) = may_at a p start past os o h.1 i

may_option : (a : Automaton) (p : Pattern) (start : ℕ) (past : List Element) (o : Option Rule) → may_fire a p start past o ≡ true → (rule : Rule)
    × (o ≡ Some rule)
may_option a p start past None h = absurd (false≢true h)
may_option a p start past (Some rule) h = (rule, refl)

pub may_exists : (a : Automaton) (p : Pattern) (start : ℕ) (past : List Element) (o : ℕ) → may_fire a p start past (slice_get a.rules o) ≡ true → Exists a o
may_exists a p start past o h = may_option a p start past (slice_get a.rules o) h

-- what it takes to fire
pub record May (a : Automaton) (p : Pattern) (start : ℕ) (past : List Element) (rule : Rule) : Type 0 where
  pub apart : rule.from ≢ rule.to
  pub from : has_bit p.empty rule.from ≡ false
  pub to : has_bit p.empty rule.to ≡ false
  pub rise : all_below (length a.rise) (λ i. implies (has_bit rule.rise i) (has_rise past i)) ≡ true
  pub fall : all_below (length a.fall) (λ j. implies (has_bit rule.fall j) (not (has_fallen start past j))) ≡ true

pub may_parts : (a : Automaton) (p : Pattern) (start : ℕ) (past : List Element) (rule : Rule) → may_fire a p start past (Some rule) ≡ true
    → May a p start past rule
may_parts a p start past rule h =
    let one = and_parts _ _ h in
    let two = and_parts _ _ one.1 in
    let three = and_parts _ _ two.1 in
    let four = and_parts _ _ three.1 in
    record { apart = eqb-false rule.from rule.to (not-true _ one.0); from = not-true _ two.0; to = not-true _ three.0; rise = four.0; fall = four.1 }

pub may_rules : (a : Automaton) (p : Pattern) (start : ℕ) (past : List Element) (os : List ℕ) → EachMay a p start past os → EachRule a os
may_rules a p start past [] h = tt
may_rules a p start past (o ∷ os) h = (may_exists a p start past o h.0, may_rules a p start past os h.1)

pub may_from : (a : Automaton) (p : Pattern) (start : ℕ) (past : List Element) (os : List ℕ)
    → ((o : ℕ) → In o os → may_fire a p start past (slice_get a.rules o) ≡ true) → EachMay a p start past os
may_from a p start past [] f = tt
may_from a p start past (o ∷ os) f = (f o (inl refl), may_from a p start past os (λ q i. f q (inr i)))

-- firings that may be done from a configuration
pub record Segment (a : Automaton) (p : Pattern) (start : ℕ) (past : List Element) (d : Config) (os : List ℕ) : Type 0 where
  pub whole : Whole a d
  pub may : EachMay a p start past os
  pub onward : Onward a os
  pub rises : (i : ℕ) (row : Row) → slice_get a.rise i ≡ Some row → has_rise past i ≡ true → RowHolds (value_at d) row
  pub falls : (j : ℕ) (row : Row) → slice_get a.fall j ≡ Some row → has_fallen start past j ≡ false
      → pos 0 ≤ℤ value_of (λ i. value_at d i +ℤ total (change_of a i) os) row.form
  pub ends : (l : ℕ) → l < length a.locations → has_bit p.empty l ≡ false
      → pos 0 ≤ℤ (value_at d (location_place a l) +ℤ total (change_of a (location_place a l)) os)
  pub empty : KeptEmpty p d

kept_after : (a : Automaton) (p : Pattern) (start : ℕ) (past : List Element) (d next : Config) (r : ℕ) → (step : Step a r d next)
    → may_fire a p start past (slice_get a.rules r) ≡ true → KeptEmpty p d → KeptEmpty p next
kept_after a p start past d next r step may empty l t =
    let m = may_parts a p start past step.rule (ap (may_fire a p start past) (sym step.named) ∙ may) in
    let nf : l ≢ step.rule.from = (λ e. false≢true (sym m.from ∙ ap (has_bit p.empty) (sym e) ∙ t)) in
    let nt : l ≢ step.rule.to = (λ e. false≢true (sym m.to ∙ ap (has_bit p.empty) (sym e) ∙ t)) in
    untouched l step.rule.from step.rule.to (get_or next.counters l 0) (get_or d.counters l 0) nf nt (step.move.moved l) ∙ empty l t

-- the guards of a rule that may fire hold
may_rise : (a : Automaton) (p : Pattern) (start : ℕ) (past : List Element) (rule : Rule) → May a p start past rule → (i : ℕ) (row : Row)
    → slice_get a.rise i ≡ Some row → IsBitSet rule.rise i → has_rise past i ≡ true
may_rise a p start past rule m i row at set = implies-at _ _
    (all_below-at (length a.rise) (λ k. implies (has_bit rule.rise k) (has_rise past k)) m.rise i (slice_get_within _ _ _ at)) (bit_true rule.rise i set)

may_fall : (a : Automaton) (p : Pattern) (start : ℕ) (past : List Element) (rule : Rule) → May a p start past rule → (j : ℕ) (row : Row)
    → slice_get a.fall j ≡ Some row → IsBitSet rule.fall j → has_fallen start past j ≡ false
may_fall a p start past rule m j row at set = not-true _
    (implies-at _ _ (all_below-at (length a.fall) (λ k. implies (has_bit rule.fall k) (not (has_fallen start past k))) m.fall j (slice_get_within _ _ _ at))
    (bit_true rule.fall j set))

-- one firing at which the guards hold and a process is there
fire_one : (a : Automaton) (p : Pattern) (start : ℕ) (past : List Element) (d : Config) (r : ℕ) → Whole a d
    → may_fire a p start past (slice_get a.rules r) ≡ true
    → ((i : ℕ) (row : Row) → slice_get a.rise i ≡ Some row → has_rise past i ≡ true → RowHolds (value_at d) row)
    → ((j : ℕ) (row : Row) → slice_get a.fall j ≡ Some row → has_fallen start past j ≡ false → RowHolds (value_at d) row) → KeptEmpty p d
    → ((rule : Rule) → slice_get a.rules r ≡ Some rule → 1 ≤ get_or d.counters rule.from 0) → (next : Config) × Step a r d next × Whole a next
    × KeptEmpty p next
fire_one a p start past d r whole may rises falls empty some =
    let w = may_exists a p start past r may in
    let rule = w.0 in
    let m = may_parts a p start past rule (ap (may_fire a p start past) (sym w.1) ∙ may) in
    let rise : MaskedHold rule.rise a.rise d = (λ i row at set. rises i row at (may_rise a p start past rule m i row at set)) in
    let fall : MaskedHold rule.fall a.fall d = (λ j row at set. falls j row at (may_fall a p start past rule m j row at set)) in
    let step = fire_step a r rule d w.1 whole rise fall (some rule w.1) in
    (fire a rule d, step, fire_whole a rule d whole, kept_after a p start past d (fire a rule d) r step may empty)

-- where firings lead
pub record Fired (a : Automaton) (p : Pattern) (first d : Config) (t : Trail a (KeptEmpty p) first d) (os : List ℕ) : Type 0 where
  pub end : Config
  pub trail : Trail a (KeptEmpty p) first end
  pub is : trail.rules ≡ t.rules ++ os
  pub grows : Grows a (KeptEmpty p) first d end t trail
  pub whole : Whole a end
  pub values : (i : ℕ) → value_at end i ≡ (value_at d i +ℤ total (change_of a i) os)

-- firings change nothing at a location that is kept empty
empty_total : (a : Automaton) (p : Pattern) (start : ℕ) (past : List Element) (os : List ℕ) (l : ℕ) → EachMay a p start past os → has_bit p.empty l ≡ true
    → total (change_of a (location_place a l)) os ≡ pos 0
unfolding total
empty_total a p start past [] l h set = refl
empty_total a p start past (o ∷ os) l h set =
    let w = may_exists a p start past o h.0 in
    let m = may_parts a p start past w.0 (ap (may_fire a p start past) (sym w.1) ∙ h.0) in
    let from : one_if (w.0).from l ≡ pos 0 = one_if-ne (w.0).from l (λ e. false≢true (sym m.from ∙ ap (has_bit p.empty) e ∙ set)) in
    let to : one_if (w.0).to l ≡ pos 0 = one_if-ne (w.0).to l (λ e. false≢true (sym m.to ∙ ap (has_bit p.empty) e ∙ set)) in
    omega (arith, ints, change_location a l o w.0 w.1, from, to, empty_total a p start past os l h.1 set)

-- along steps of rules that may fire, what is kept empty stays empty
kept_along : (a : Automaton) (p : Pattern) (start : ℕ) (past : List Element) (d : Config) (os : List ℕ) (later : List Config) → EachMay a p start past os
    → Steps a d os later → KeptEmpty p d → (j : ℕ) (c : Config) → slice_get (d ∷ later) j ≡ Some c → KeptEmpty p c
kept_along a p start past d os later may steps empty zero c at = subst (KeptEmpty p) (same_config d c at) empty where
  same_config : (x y : Config) → Some x ≡ Some y → x ≡ y
  same_config x y e = cc
kept_along a p start past d [] [] may steps empty (suc j) c at = absurd (cc)
kept_along a p start past d [] (n ∷ later) may steps empty (suc j) c at = absurd steps
kept_along a p start past d (o ∷ os) [] may steps empty (suc j) c at = absurd steps
kept_along a p start past d (o ∷ os) (n ∷ later) may steps empty (suc j) c at = kept_along a p start past n os later may.1 steps.1
    (kept_after a p start past d n o steps.0 may.0 empty) j c at

-- a run goes on by firings that go forward
pub fire_all : (a : Automaton) (p : Pattern) (start : ℕ) (past : List Element) (first : Config) (os : List ℕ) (d : Config) (t : Trail a (KeptEmpty p) first d)
    → Segment a p start past d os → Fired a p first d t os
fire_all a p start past first os d t s =
    let rules = may_rules a p start past os s.may in
    let parts : (o : ℕ) (rule : Rule) → In o os → slice_get a.rules o ≡ Some rule
    → May a p start past rule = (λ o rule i named. may_parts a p start past rule
    (ap (may_fire a p start past) (sym named) ∙ may_at a p start past os o s.may i)) in
    let piece : Piece a d os = record {
      whole = s.whole;
      exist = rules;
      rises = λ o rule i named k row at set. s.rises k row at (may_rise a p start past rule (parts o rule i named) k row at set);
      falls = λ o rule i named j row at set. holds_before_last a (value_at d) os rules j row at
          (s.falls j row at (may_fall a p start past rule (parts o rule i named) j row at set));
      ends = λ l b. elim (cases_Bool (has_bit p.empty l)) [
        | inl e ↦ omega (arith, ints, empty_total a p start past os l s.may e, value_at-location a d l (fits_whole a d s.whole))
        | inr e ↦ s.ends l b e
      ];
    } in
    let f = fire_in_order a os d s.onward piece in
    let g = trail_append a (KeptEmpty p) first d t os f.later f.end f.steps f.last (kept_along a p start past d os f.later s.may f.steps s.empty) in
    record { end = f.end; trail = g.trail; is = g.is; grows = g.grows; whole = f.whole; values = f.values }

-- a run goes on by one firing
pub fire_last : (a : Automaton) (p : Pattern) (start : ℕ) (past : List Element) (first d : Config) (t : Trail a (KeptEmpty p) first d) (r : ℕ) → Whole a d
    → may_fire a p start past (slice_get a.rules r) ≡ true
    → ((i : ℕ) (row : Row) → slice_get a.rise i ≡ Some row → has_rise past i ≡ true → RowHolds (value_at d) row)
    → ((j : ℕ) (row : Row) → slice_get a.fall j ≡ Some row → has_fallen start past j ≡ false → RowHolds (value_at d) row) → KeptEmpty p d
    → ((rule : Rule) → slice_get a.rules r ≡ Some rule → 1 ≤ get_or d.counters rule.from 0) → Fired a p first d t (r ∷ [])
unfolding total
fire_last a p start past first d t r whole may rises falls empty some =
    let f = fire_one a p start past d r whole may rises falls empty some in
    let moved = move_at a r d f.0 (fits_whole a d whole) (fits_whole a f.0 f.2) f.1 in
    let steps : Steps a d (r ∷ []) (f.0 ∷ []) = (f.1, tt) in
    let g = trail_append a (KeptEmpty p) first d t (r ∷ []) (f.0 ∷ []) f.0 steps refl (kept_along a p start past d (r ∷ []) (f.0 ∷ []) (may, tt) steps empty) in
    record { end = f.0; trail = g.trail; is = g.is; grows = g.grows; whole = f.2; values = λ i. omega (arith, ints, moved i) }
