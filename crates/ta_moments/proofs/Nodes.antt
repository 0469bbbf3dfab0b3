-- settled moments are a settled picture
use Rattle.ta_moments.proofs.Common.{◌+◌, ◌-◌, ◌*◌, suc, range_with_len, length-range_with_len, slice_get, is_moving, ◌≡◌, ◌⊎◌, inl, inr, ℕ, ◌≤◌, pos, ◌≤ℤ◌}
use Rattle.ta_moments.proofs.Common.{List, [], ◌∷◌, length, arith, sym, refl, ◌∙◌, subst, ints, In, slice_get_within, AllByRecursion, get_or, RowHolds, Row}
use Rattle.ta_moments.proofs.Common.{Automaton, Pattern, location_place, moving_rules, start_meanings, Vector, Moment, early, late, form_at, rows_at_start}
use Rattle.ta_moments.proofs.Common.{InScope, Cost, Counts, NoneFewer, Comparable, firings_in, value_after, Picture, HappensIn, Settled, BeginsAt, counts_of}
use Rattle.ta_moments.proofs.Common.{IsNatural, IsMoment, positions_of, RunOfMoments, StandsApart, SettledMoments}
use Rattle.ta_moments.specs.Whole.{form_value}
use Rattle.ta_moments.proofs.Starting.{natural_is, starts}
use Rattle.ta_base.proofs.Lists.{filter_shorter}
use Rattle.ta_moments.proofs.Segments.{sum_grows}
use Rattle.ta_moments.proofs.Settling.{fewer, each_position, stand_apart}
use Rattle.ta_moments.proofs.Happening.{patterns_shown}

pub all_positions : List ℕ → List Moment → List Counts
all_positions vs [] = []
all_positions vs (m ∷ ms) = counts_of vs (early m) ∷ counts_of vs (late m) ∷ all_positions vs ms

pub early_in : (vs : List ℕ) (ms : List Moment) (m : Moment) → In m ms → In (counts_of vs (early m)) (all_positions vs ms)
unfolding all_positions
early_in vs [] m i = absurd i
early_in vs (x ∷ ms) m (inl e) = subst (λ (y : Moment). In (counts_of vs (early y)) (all_positions vs (x ∷ ms))) (sym e) (inl refl)
early_in vs (x ∷ ms) m (inr i) = inr (inr (early_in vs ms m i))

pub late_in : (vs : List ℕ) (ms : List Moment) (m : Moment) → In m ms → In (counts_of vs (late m)) (all_positions vs ms)
unfolding all_positions
late_in vs [] m i = absurd i
late_in vs (x ∷ ms) m (inl e) = subst (λ (y : Moment). In (counts_of vs (late y)) (all_positions vs (x ∷ ms))) (sym e) (inr (inl refl))
late_in vs (x ∷ ms) m (inr i) = inr (inr (late_in vs ms m i))

pub from : (vs : List ℕ) (ms : List Moment) (u : Counts) → In u (all_positions vs ms) → (m : Moment) × In m ms × In u (positions_of vs m)
unfolding all_positions
from vs [] u i = absurd i
from vs (x ∷ ms) u (inl e) = (x, inl refl, inl e)
from vs (x ∷ ms) u (inr (inl e)) = (x, inl refl, inr (inl e))
from vs (x ∷ ms) u (inr (inr i)) = let w = from vs ms u i in (w.0, inr w.1, w.2)

itself : (a : Automaton) (p : Pattern) (vs : List ℕ) (m : Moment) → IsMoment a p vs m → StandsApart a p vs m m
    × ((u w : Counts) → In u (positions_of vs m) → In w (positions_of vs m) → Comparable (moving_rules a p) u w)
itself a p vs m h =
    let rs = moving_rules a p in
    let b = counts_of vs (early m) in
    let e = counts_of vs (late m) in
    let le = fewer a p vs (early m) (late m) h.early_natural h.late_natural h.in_order in (
      each_position (λ u. NoneFewer rs u b ⊎ NoneFewer rs e u) vs m (inl (λ r i. omega arith)) (inr (λ r i. omega arith)),
      λ u w i j. each_position (λ x. Comparable rs x w) vs m
          (each_position (λ y. Comparable rs b y) vs m (inl (λ r k. omega arith)) (inl le) w j)
          (each_position (λ y. Comparable rs e y) vs m (inr le) (inl (λ r k. omega arith)) w j) u i,
    )

two : (a : Automaton) (p : Pattern) (vs : List ℕ) (m n : Moment) → IsMoment a p vs m → IsMoment a p vs n → (m ≡ n) ⊎ Settled a p vs m n → StandsApart a p vs m n
    × ((u w : Counts) → In u (positions_of vs m) → In w (positions_of vs n) → Comparable (moving_rules a p) u w)
two a p vs m n h k (inl e) = subst
    (λ (x : Moment). StandsApart a p vs m x × ((u w : Counts) → In u (positions_of vs m) → In w (positions_of vs x) → Comparable (moving_rules a p) u w)) e
    (itself a p vs m h)
two a p vs m n h k (inr s) = let w = stand_apart a p vs m n h k s in (w.0, w.2)

-- a moment costs no more accelerated steps than there are rules and one
moments_cost : (a : Automaton) (p : Pattern) (vs : List ℕ) (ms : List Moment)
    → ((m : Moment) → In m ms → firings_in (moving_rules a p) (counts_of vs (late m)) ≤ firings_in (moving_rules a p) (counts_of vs (early m)) + 1)
    → ((m : Moment) → In m ms → NoneFewer (moving_rules a p) (counts_of vs (early m)) (counts_of vs (late m)))
    → Cost (moving_rules a p) (all_positions vs ms) (length ms * (length a.rules + 1))
unfolding all_positions
moments_cost a p vs [] short grows = tt
moments_cost a p vs (m ∷ ms) short grows =
    let rs = moving_rules a p in
    let one = firings_in rs (counts_of vs (early m)) in
    let two = firings_in rs (counts_of vs (late m)) in
    let before = length ms * (length a.rules + 1) in
    let more = sum_grows rs (counts_of vs (early m)) (counts_of vs (late m)) (grows m (inl refl)) in
    let few : length rs ≤ length a.rules = omega
    (arith, filter_shorter (λ r. is_moving p (slice_get a.rules r)) (range_with_len 0 (length a.rules)), length-range_with_len 0 (length a.rules)) in
    let next : suc (length ms) * (length a.rules + 1) ≡ before + (length a.rules + 1) = omega arith in
    let least = short m (inl refl) in (
      before + length rs,
      (before, moments_cost a p vs ms (λ n i. short n (inr i)) (λ n i. grows n (inr i)), inl (omega arith)),
      inr (two - one, counts_of vs (late m), inl refl, omega (arith, more), omega (arith, few, next, least)),
    )

-- the picture that settled moments are, with the configuration in which it begins
pub record PictureOf (a : Automaton) (p : Pattern) (vs : List ℕ) (ms : List Moment) (end : Vector) (happens : ℕ → Moment) : Type 0 where
  pub begins : BeginsAt a p vs
  pub picture : Picture a p begins.first (all_positions vs ms) (counts_of vs end)
  pub happen : HappensIn a p begins.first (all_positions vs ms) (λ e. counts_of vs (early (happens e)))

pub picture_of : (a : Automaton) (p : Pattern) → (values : List ℕ) → length (start_meanings a p) ≤ length values
    → AllByRecursion (λ row. pos 0 ≤ℤ form_value values row) (rows_at_start a p) → (moments : List Moment) (end : Vector) (happens : ℕ → Moment)
    → SettledMoments a p values moments end happens → PictureOf a p values moments end happens
picture_of a p vs enough met ms end happens s =
    let rs = moving_rules a p in
    let b = starts a p vs enough met in
    let first = b.first in
    let positions = all_positions vs ms in
    let last = counts_of vs end in
    let holds : (v : Vector) → IsNatural a p vs v → (row : Row) → pos 0 ≤ℤ form_value vs (form_at a p v row.form)
    → RowHolds (value_after a p first (counts_of vs v)) row = (λ v n row h. omega (arith, ints, h, b.forms v n row.form)) in
    let fires : (r : ℕ) → In r rs → 1 ≤ last r → pos 1 ≤ℤ form_value vs (end r) =
    (λ r i h. omega (arith, ints, h, natural_is (form_value vs (end r)) (s.end_natural r i))) in
    let pic : Picture a p first positions last = record {
      comparable = λ u w i j.
          let m = from vs ms u i in
          let n = from vs ms w j in
          (two a p vs m.0 n.0 (s.each m.0 m.1) (s.each n.0 n.1) (s.settled m.0 n.0 m.1 n.1)).1 u w m.2 n.2;
      within = λ u i.
          let m = from vs ms u i in
          let h = s.each m.0 m.1 in
          let own = fewer a p vs (early m.0) (late m.0) h.early_natural h.late_natural h.in_order in
          let far = fewer a p vs (late m.0) end h.late_natural s.end_natural (s.within m.0 m.1) in
          each_position (λ x. NoneFewer rs x last) vs m.0 (λ r k. omega (arith, own r k, far r k)) far u m.2;
      natural = λ u i l c d.
          let m = from vs ms u i in
          let h = s.each m.0 m.1 in
          let n = s.counters m.0 m.1 l c d in
          let one = n.0 in
          let other = n.1 in
          each_position (λ x. pos 0 ≤ℤ value_after a p first x (location_place a l)) vs m.0
          (omega (arith, ints, one, b.places (early m.0) h.early_natural (location_place a l)))
          (omega (arith, ints, other, b.places (late m.0) h.late_natural (location_place a l))) u m.2;
      rise = λ r rule i f named k row at set.
          let w = s.rise r rule i (fires r i f) named k row at set in
          let h = s.each w.0 w.1 in
          let none = natural_is (form_value vs (early w.0 r)) (h.early_natural r i) in
          let zero_there = w.2 in
          (counts_of vs (early w.0), early_in vs ms w.0 w.1, omega (arith, ints, none, zero_there), holds (early w.0) h.early_natural row w.3);
      fall = λ r rule i f named j row at set. elim (s.fall r rule i (fires r i f) named j row at set) [
        | inl h ↦ inl (holds end s.end_natural row h)
        | inr w ↦ (
            let h = s.each w.moment w.among in
            let x = natural_is (form_value vs (end r)) (s.end_natural r i) in
            let y = natural_is (form_value vs (late w.moment r)) (h.late_natural r i) in
            inr (record {
              before = counts_of vs (early w.moment);
              after = counts_of vs (late w.moment);
              before_in = early_in vs ms w.moment w.among;
              after_in = late_in vs ms w.moment w.among;
              one = w.one;
              last = omega (arith, ints, x, y, w.last);
              holds = holds (early w.moment) h.early_natural row w.holds;
              apart = λ u q. let m = from vs ms u q in (two a p vs m.0 w.moment (s.each m.0 m.1) h (s.settled m.0 w.moment m.1 w.among)).0 u m.2;
            }))
      ];
    } in
    let place : HappensIn a p first positions (λ e. counts_of vs (early (happens e))) = record {
      among = λ e c. early_in vs ms (happens e) (s.among e c);
      holds = λ e event at j d c i x q. holds (early (happens e)) (s.each (happens e) (s.among e (slice_get_within p.events e event at))).early_natural
          (get_or (get_or event.condition.comparisons j d).rows i x) (s.holds e event at j d c i x q);
      in_order = λ e f event at c set. fewer a p vs (early (happens f)) (early (happens e)) (s.each (happens f) (s.among f c)).early_natural
          (s.each (happens e) (s.among e (slice_get_within p.events e event at))).early_natural (s.in_order e f event at c set);
    } in
    record { begins = b; picture = pic; happen = place }

pub settled_runs : (a : Automaton) (p : Pattern) → InScope a → (values : List ℕ) → length (start_meanings a p) ≤ length values
    → AllByRecursion (λ row. pos 0 ≤ℤ form_value values row) (rows_at_start a p) → (moments : List Moment) (end : Vector) (happens : ℕ → Moment)
    → SettledMoments a p values moments end happens → RunOfMoments a p values moments happens
settled_runs a p scope vs enough met ms end happens s =
    let w = picture_of a p vs enough met ms end happens s in
    let b = w.begins in
    let first = b.first in
    let positions = all_positions vs ms in
    let last = counts_of vs end in
    let o = patterns_shown a p scope first b.initial b.start b.stands positions last w.picture (λ e. counts_of vs (early (happens e))) w.happen in
    record {
      first = first;
      rules = o.rules;
      few = o.few (length ms * (length a.rules + 1))
          (moments_cost a p vs ms s.short (λ m i. (let h = s.each m i in fewer a p vs (early m) (late m) h.early_natural h.late_natural h.in_order)));
      begins = b.begins;
      occurs = o.occurs;
      values_there = λ e k c less here there i. o.stands e k c less here there i
          ∙ sym (b.places (early (happens e)) (s.each (happens e) (s.among e less)).early_natural i);
    }
